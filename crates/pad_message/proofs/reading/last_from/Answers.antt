use Rattle.std.proofs.Common.{rules, ◌≡◌, Option, Some, None, map, sym, ◌∙◌, arith}
use Rattle.std.specs.Option.{MatchOption, IfNone}
use Rattle.serde_json.specs.View.{view}
use Rattle.pad_json.specs.Data.{array_of}
use Rattle.pad_message.proofs.Arrays.{has-last}
use Rattle.pad_message.proofs.reading.last_from.Goals as goal

at_none : {X : Type 0} (o : Option X) (P Q : Type 0) (R : X → Type 0) → MatchOption o P R → (P → Q) → IfNone o Q
at_none None P Q R is step = step is
at_none (Some x) P Q R is step = tt

pub returns-clause-none : goal.returns-clause-none
returns-clause-none c =
    let seen : view c.args.value.now ≡ array_of (map view c.as_slice.result.now) = search rules in
    at_none c.split_last.result _ _ _ c.split_last.ensures.cases
    (λ empty front last same. let some = has-last view c.as_slice.result.now front last (sym seen ∙ same) in absurd (omega (arith, some, empty)))
