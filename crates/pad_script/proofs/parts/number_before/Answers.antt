-- No number of the range stands before a space.
use Rattle.std.proofs.Common.{arith}
use Rattle.std.specs.Prelude.{decimal}
use Rattle.pad_script.proofs.Digits.{no_space_in_number}
use Rattle.pad_script.proofs.parts.number_before.Goals as goal

pub returns-in_default-clause-none : goal.returns-in_default-clause-none
returns-in_default-clause-none c number rest above below written =
    c.in_default.ensures.none (decimal number) rest (no_space_in_number number (omega (arith, below, c.ranges.most))) written

pub returns-in-None-clause-none : goal.returns-in-None-clause-none
returns-in-None-clause-none c number rest above below written =
    c.in-None.ensures.none number above below (c.in-Some.ensures.first (decimal number) rest (no_space_in_number number (omega (arith, below, c.ranges.most))) written).0
