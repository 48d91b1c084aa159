-- Each letter was typed under its own stroke.
use Rattle.std.proofs.Common.{ℕ, [], ◌∷◌}
use Rattle.pad_text.specs.Text.{units_of}
use Rattle.pad_stroke.specs.declared.mark.Mark.{Mark}
use Rattle.pad_row.specs.Edits.{with_stroke}
use Rattle.client_work.proofs.Typing.{earlier_own}
use Rattle.client_work.proofs.tests.carried_work.Goals as goal

-- under the stroke 1 the letter `d`
abbrev first_typed : Mark → ℕ
first_typed = with_stroke (λ (mark : Mark). 0) 1 (units_of (100 ∷ []))

-- and under the stroke 2 the letter `X`
abbrev both_typed : Mark → ℕ
both_typed = with_stroke first_typed 2 (units_of (88 ∷ []))

pub follow-requires : goal.follow-requires
follow-requires g c = (
  both_typed,
  c.in_ok-work.ensures first_typed,
  c.in_ok-sent.ensures (record { text = c.receive-2.new.self.branch.branch.units; typed = both_typed; strokes = 2 })
      (earlier_own c.others_stay_typed.ensures first_typed (units_of (88 ∷ [])) c.receive.new.self.branch.branch.units c.receive-2.new.self.branch.branch.units c.in_ok-own.own (c.in_ok-own.ensures (λ (mark : Mark). 0)).own),
)
