use Rattle.std.proofs.Common.{refl, sym, ap, ◌∙◌, subst, string_bytes}
use Rattle.std.proofs.lemmas.Result.{IfOk-weaker}
use Rattle.pad_text.specs.Hash.{document_hash}
use Rattle.pad_chain.specs.State as chains
use Rattle.pad_chain.specs.Tie.{StandsFor, IsChosen}
use Rattle.pad_report.specs.declared.report.Report.{Report}
use Rattle.pad_client.specs.View.{View, StandsAs}
use Rattle.pad_client.proofs.Reporting.{reported}
use Rattle.pad_client.proofs.client.Client.pad_lines.Goals as goal

pub lines-requires : goal.lines-requires
lines-requires g c = c.hash.ensures.is ∙ ap document_hash (sym (c.in_ok-text.ensures ∙ c.text.ensures.is))

pub returns : goal.returns
returns g c =
    let best = c.best-best_end.result in
    let root = c.root-root_end.result in
    let report : Report = record {
      best = best.name;
      height = best.height;
      hash = c.hash.result;
      known = c.known.result;
      waiting = c.waiting.result;
      unreadable = c.self.inside.unreadable;
      root = root.name;
      root_height = root.height;
      kept = c.kept.result;
      overtaken = c.overtaken.result;
    } in
    IfOk-weaker c.lines.result _ _ (λ lines is client stands.
    let pad = client.copy.pad in
    let stood = subst (λ (v : View). StandsAs v client) (sym c.self.view_is) stands in
    let chain = subst (λ (v : chains.View). StandsFor v pad.base pad.received pad.choice) (sym c.chain-chain.ensures) stood.copy.pad.stands in
    reported client report best root c.in_ok-text.text (string_bytes lines)
    (subst (λ whole. IsChosen whole pad.base pad.received pad.choice) stood.copy.pad.whole stood.copy.pad.stands.chosen)
    (c.best-best_end.ensures.stands pad.base pad.received pad.choice chain) (c.root-root_end.ensures.stands pad.base pad.received pad.choice chain)
    (c.in_ok-text.ensures ∙ c.text.ensures.stands pad.base pad.received pad.choice chain) (c.overtaken.ensures.stands pad.base pad.received pad.choice chain)
    stood.unreadable (c.known.ensures.stands pad.base pad.received pad.choice chain) (c.waiting.ensures.stands pad.base pad.received pad.choice chain)
    (c.kept.ensures.stands pad.base pad.received pad.choice chain) refl is) c.lines.ensures
