use Rattle.std.proofs.lemmas.Bool.Decides.{nat_tests}
use Rattle.std.proofs.Common.{rules, ◌≡◌, map, sym, ◌∙◌, arith}
use Rattle.serde_json.specs.View.{view}
use Rattle.pad_json.specs.Data.{array_of}
use Rattle.pad_message.proofs.Arrays.{length-three}
use Rattle.pad_message.proofs.reading.three_from.Goals as goal
use Rattle.pad_message.proofs.reading.three_from.Goals.{in_default-via-then-as_slice-lt3, in_default-via-else-as_slice-lt3+else-this-lt4}

pub returns-in_default-clause-none : goal.returns-in_default-clause-none
returns-in_default-clause-none c first second third same =
    let seen : view c.args.value.now ≡ array_of (map view c.as_slice.result.now) = search rules in
    let size = length-three view c.as_slice.result.now first second third (sym seen ∙ same) in
    elim c.in_default.branch [
      | in_default-via-then-as_slice-lt3 w ↦ absurd (grind (arith, nat_tests))
      | in_default-via-else-as_slice-lt3+else-this-lt4 w ↦ absurd (grind (arith, nat_tests))
    ]
