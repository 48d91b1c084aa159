use Rattle.std.proofs.Common.{◌≡◌, length, take}
use Rattle.pad_text.proofs.utf8.narrow.Given as goal

abbrev pub invariant-loop-i : goal.invariant-loop-i
invariant-loop-i l = (length l.room ≡ 512) × (take l.i l.room ≡ take l.i l.units)
