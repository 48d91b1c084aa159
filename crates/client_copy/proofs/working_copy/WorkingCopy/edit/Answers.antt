use Rattle.std.proofs.Common.{List, ℕ, sym, subst}
use Rattle.client_copy.specs.Held.{IsHeldOn}
use Rattle.client_copy.proofs.working_copy.WorkingCopy.edit.Goals as goal

pub edit_work-requires-clause-held : goal.edit_work-requires-clause-held
edit_work-requires-clause-held g c =
    subst (λ (t : List ℕ). IsHeldOn t c.self.inside.work c.self.inside.sent.entries c.self.inside.strokes) (sym c.text.ensures.is) c.self.invariant

pub invariant_of-self : goal.invariant_of-self
invariant_of-self g c =
    subst (λ (t : List ℕ). IsHeldOn t c.edit_work.new.work c.self.inside.sent.entries c.edit_work.new.strokes) c.text.ensures.is c.edit_work.ensures.held
