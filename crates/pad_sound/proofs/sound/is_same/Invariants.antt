use Rattle.std.proofs.Common.{◌≡◌, ℕ, ◌<◌, get_or}
use Rattle.pad_sound.proofs.sound.is_same.Given as goal

abbrev pub invariant-loop-at : goal.invariant-loop-at
invariant-loop-at g l = (k : ℕ) → k < l.at → get_or l.text k 0 ≡ get_or (g.S.UnitStore.units l.store) k 0
