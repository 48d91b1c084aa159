-- A text is a number as it is written where it begins so and is parsed.
use Rattle.std.proofs.Common.{rules, arith}
use Rattle.pad_script.specs.Inside.Words.{BeginsAsNumber}
use Rattle.pad_script.proofs.Digits.{begins_as_number, number_none, number_some}
use Rattle.pad_script.proofs.numbers.number_from.Goals as goal

pub returns-then-not-begins_as_number-clause-none : goal.returns-then-not-begins_as_number-clause-none
returns-then-not-begins_as_number-clause-none c number small written =
    let begins : BeginsAsNumber c.args.text.now = begins_as_number number c.args.text.now (omega (arith, small)) written in
    search rules

pub returns-clause-some : goal.returns-clause-some
returns-clause-some c =
    let begins : BeginsAsNumber c.args.text.now = search rules in
    rw c.ok.ensures.value (number_some 32 c.args.text.now c.parse.result (omega arith) c.parse.ensures.value.0 begins)

pub returns-clause-none : goal.returns-clause-none
returns-clause-none c = rw c.ok.ensures.value (number_none 32 c.args.text.now c.parse.result (omega arith) c.parse.ensures.value.0)
