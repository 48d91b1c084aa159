use Rattle.std.proofs.Common.{inl, inr, refl, sym, ◌∙◌, ap, Some}
use Rattle.std.proofs.lemmas.Bool.{false≢true}
use Rattle.pad_client.proofs.client.hear.hear_unknown.Goals as goal

pub returns-then-is_channel : goal.returns-then-is_channel
returns-then-is_channel c = inl (c.is_channel.ensures.0 c.if-is_channel.true ∙ ap Some c.as_str.ensures.value, c.end_unanswered.ensures)

pub returns : goal.returns
returns c = inr ((λ its. false≢true (sym c.if-is_channel.false ∙ c.is_channel.ensures.1 (its ∙ ap Some (sym c.as_str.ensures.value)))), record { told = refl; state = refl })
