-- What the chain tells is the report.
use Rattle.std.proofs.Common.{Result, Ok, Err, OnOk, reverse, string_bytes, sym, ap, ◌∙◌}
use Rattle.std.proofs.lemmas.Result.{IfOk-weaker}
use Rattle.pad_text.specs.Hash.{document_hash}
use Rattle.pad_model.specs.Base.{first_base}
use Rattle.pad_received.proofs.Receiving.{few_names, reported}
use Rattle.pad_received.proofs.received.Received.report.Goals as goal

on_ok : {A E : Type 0} {P : Type 0} (r : Result A E) → P → OnOk r P
on_ok (Ok x) h = h
on_ok (Err e) h = tt

pub lines-requires : goal.lines-requires
lines-requires c = c.told.ensures.hash ∙ ap document_hash (sym (c.in_ok-text.ensures ∙ c.text.ensures.is))

pub returns-clause-few : goal.returns-clause-few
returns-clause-few c =
    on_ok c.lines.result (λ progress at. few_names progress.messages c.told.result.known (c.told.ensures.known first_base (reverse progress.messages) at.knows) c.told.ensures.few)

pub returns-clause-report : goal.returns-clause-report
returns-clause-report c =
    IfOk-weaker c.lines.result _ _ (λ lines is progress at differ.
    let choice = (at.stands differ).0 in
    let stands = (at.stands differ).1 in
    reported progress choice c.told.result c.in_ok-text.text (string_bytes lines) (c.told.ensures.tells progress choice at stands)
    (c.in_ok-text.ensures ∙ c.text.ensures.stands first_base (reverse progress.messages) choice stands) is) c.lines.ensures
