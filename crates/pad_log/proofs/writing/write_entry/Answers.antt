use Rattle.std.proofs.Common.{◌≡◌, ◌∙◌, ◌++◌, ℕ, List, OnOk, OnErr, inr, ap, subst}
use Rattle.std.proofs.lemmas.Result.{on_ok_weaker, on_err_weaker}
use Rattle.pad_output.specs.Output.{AppendsPart}
use Rattle.pad_log.specs.Lines.{line_of_entry}
use Rattle.pad_log.specs.Log.{Gathers}
use Rattle.pad_log.proofs.writing.write_entry.Goals as goal

pub returns-in-Ok-Some-clause-whole : goal.returns-in-Ok-Some-clause-whole
returns-in-Ok-Some-clause-whole g c =
    let found = rw c.in-Ok-Some.field-0-is at c.in-Ok-Some.ensures in
    let line : c.as_bytes.result.now ≡ line_of_entry c.args.index c.in-Ok.payload = c.as_bytes.ensures.value ∙ found.1 ∙ ap (line_of_entry c.args.index) c.as_slice.ensures in
    on_ok_weaker c.gather.result (λ written. (c.in-Ok.payload, c.in-Ok.ensures.entry, (λ told doubt held suspense is. c.in-Ok.ensures.payload told doubt held suspense is), written))
    (subst (λ (l : List ℕ). OnOk c.gather.result (Gathers (g.S.Sink.written c.args.output.now) (g.S.Sink.written c.gather.new.output) c.args.lines.now.items c.gather.new.lines.items l)) line c.gather.ensures.whole)

pub returns-in-Ok-Some-clause-part : goal.returns-in-Ok-Some-clause-part
returns-in-Ok-Some-clause-part g c =
    let found = rw c.in-Ok-Some.field-0-is at c.in-Ok-Some.ensures in
    let line : c.as_bytes.result.now ≡ line_of_entry c.args.index c.in-Ok.payload = c.as_bytes.ensures.value ∙ found.1 ∙ ap (line_of_entry c.args.index) c.as_slice.ensures in
    on_err_weaker c.gather.result (λ written. inr (c.in-Ok.payload, c.in-Ok.ensures.entry, (λ told doubt held suspense is. c.in-Ok.ensures.payload told doubt held suspense is), written))
    (subst (λ (l : List ℕ). OnErr c.gather.result (AppendsPart (g.S.Sink.written c.args.output.now) (g.S.Sink.written c.gather.new.output) (c.args.lines.now.items ++ l))) line c.gather.ensures.part)
