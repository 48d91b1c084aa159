use Rattle.std.proofs.Common.{◌≤◌, List, ℕ, length, subst}
use Rattle.pad_text.specs.Text.{IsText}
use Rattle.pad_patch.specs.Misfit.{longest_text}
use Rattle.client_copy.proofs.carrying.has_text.Goals as goal

pub returns-clause-text : goal.returns-clause-text
returns-clause-text g c = subst IsText c.text-units.ensures.is (g.met.S.UnitStore.is_text c.text-units.result.now)

pub returns-clause-short : goal.returns-clause-short
returns-clause-short g c = subst (λ (t : List ℕ). length t ≤ longest_text) c.text-units.ensures.is c.text-units.ensures.short
