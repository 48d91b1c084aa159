use Rattle.std.proofs.lemmas.Bool.Decides.{nat_tests}
use Rattle.std.proofs.Common.{rules, ◌≡◌, map, sym, ◌∙◌, arith}
use Rattle.serde_json.specs.View.{view}
use Rattle.pad_json.specs.Data.{array_of}
use Rattle.pad_message.proofs.Arrays.{at-least-three}
use Rattle.pad_message.proofs.reading.first_three_from.Goals as goal

pub returns-in_default-clause-none : goal.returns-in_default-clause-none
returns-in_default-clause-none c first second third after same =
    let seen : view c.args.value.now ≡ array_of (map view c.as_slice.result.now) = search rules in
    let size = at-least-three view c.as_slice.result.now first second third after (sym seen ∙ same) in
    absurd (omega (arith, size, c.in_default.len_below))
