-- the numbers so far
use Rattle.std.proofs.Common.{◌≡◌, take}
use Rattle.pad_strokes.specs.Strokes.{numbers_of}
use Rattle.pad_strokes.proofs.strokes.numbers_of.Given as goal

abbrev pub invariant-loop-stroke : goal.invariant-loop-stroke
invariant-loop-stroke l = l.numbers.items ≡ numbers_of (take l.stroke-index l.strokes)
