-- The number is another one than those of the range.
use Rattle.std.proofs.Common.{arith}
use Rattle.pad_script.proofs.Digits.{not_within}
use Rattle.pad_script.proofs.numbers.number_within.Goals as goal

pub returns-in_err-number-clause-none : goal.returns-in_err-number-clause-none
returns-in_err-number-clause-none c = rw c.from_residual.ensures (λ other above below same. c.in_err-number.ensures.none other (omega (arith, below, c.ranges.most)) same)

pub returns-then-number-least-clause-none : goal.returns-then-number-least-clause-none
returns-then-number-least-clause-none c other above below same =
    not_within c.args.text.now _ c.args.least c.args.most other c.in_ok-number.ensures.some.0 c.in_ok-number.ensures.some.1 (omega (arith, c.ranges.most))
    (λ within. absurd (omega (arith, within.0, c.if-number-least.true))) above below same

pub returns-then-most-number-clause-none : goal.returns-then-most-number-clause-none
returns-then-most-number-clause-none c other above below same =
    not_within c.args.text.now _ c.args.least c.args.most other c.in_ok-number.ensures.some.0 c.in_ok-number.ensures.some.1 (omega (arith, c.ranges.most))
    (λ within. absurd (omega (arith, within.1, c.if-most-number.true))) above below same
