-- What the chain tells, but for the text, is the report without its text.
use Rattle.std.proofs.Common.{reverse, string_bytes, sym, ap, ◌∙◌}
use Rattle.std.proofs.lemmas.Result.{IfOk-weaker}
use Rattle.pad_text.specs.Hash.{document_hash}
use Rattle.pad_model.specs.Base.{first_base}
use Rattle.pad_received.proofs.Receiving.{summed}
use Rattle.pad_received.proofs.received.Received.summary.Goals as goal

pub summary-requires : goal.summary-requires
summary-requires c = c.told.ensures.hash ∙ ap document_hash (sym (c.in_ok-text.ensures ∙ c.text.ensures.is))

pub returns : goal.returns
returns c =
    IfOk-weaker c.summary.result _ _ (λ lines is progress at differ.
    let choice = (at.stands differ).0 in
    let stands = (at.stands differ).1 in
    summed progress choice c.told.result c.in_ok-text.text (string_bytes lines) (c.told.ensures.tells progress choice at stands)
    (c.in_ok-text.ensures ∙ c.text.ensures.stands first_base (reverse progress.messages) choice stands) is) c.summary.ensures
