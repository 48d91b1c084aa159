-- The summary of what is received of the contents.
use Rattle.std.proofs.Common.{ap, subst, sym, string_bytes, ◌++◌, ◌∙◌}
use Rattle.std.specs.Prelude.{codes, decimal}
use Rattle.std.specs.List.{AllZip}
use Rattle.std.proofs.lemmas.Result.{IfOk-weaker}
use Rattle.pad_message.specs.Content.{Reads}
use Rattle.pad_model.specs.Base.{first_base}
use Rattle.pad_model.specs.Report.{line}
use Rattle.pad_generate.specs.Inside.Receiving.{IsReceivedOf}
use Rattle.pad_received.specs.Report.{IsSummary}
use Rattle.pad_generate.proofs.generating.generated.Goals as goal

pub returns : goal.returns
returns g c =
    let received : IsReceivedOf c.in_ok-wires.wires c.in_ok-received.received = c.in_ok-received.ensures in
    let summary = string_bytes c.in_ok-summary.summary in
    IfOk-weaker c.with_count.result _ _ (λ text is. record {
      messages = received.progress.messages;
      read = subst (λ contents. AllZip Reads contents received.progress.messages) c.in_ok-wires.ensures received.read;
      summary = summary;
      parts = is ∙ ap (λ told. line (codes "generated") (decimal c.args.count) ++ told) c.as_str.ensures.value;
      report = λ differ. subst (λ others. IsSummary first_base received.progress.messages others summary) received.none (c.in_ok-summary.ensures received.progress received.at differ);
    }) c.with_count.ensures
