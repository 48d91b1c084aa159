use Rattle.std.proofs.Common.{◌≡◌, ℕ, ◌<◌, get_or}
use Rattle.client_copy.proofs.leading.is_same_text.Given as goal

abbrev pub invariant-loop-at : goal.invariant-loop-at
invariant-loop-at g l = (k : ℕ) → k < l.at → get_or (g.S.UnitStore.units l.one) k 0 ≡ get_or (g.S.UnitStore.units l.other) k 0
