use Rattle.std.proofs.Common.{◌≢◌, Option, Some, None, map, sym, ◌∙◌}
use Rattle.std.specs.Option.{IfNone}
use Rattle.serde_json.specs.View.{view}
use Rattle.pad_json.specs.Data.{whole}
use Rattle.pad_message.specs.declared.kind.Kind.{Kind}
use Rattle.pad_message.specs.Data.{MayFollow, kind_number}
use Rattle.pad_message.specs.Kind.{HasInterval}
use Rattle.pad_message.proofs.Intervals.{no_checkpoint}
use Rattle.pad_message.proofs.reading.kind_from.Goals as goal

if_none : {X : Type 0} (o : Option X) (P : Type 0) → P → IfNone o P
if_none None P is = is
if_none (Some x) P is = tt

pub returns-in_err-interval_from-in-4-clause-none : goal.returns-in_err-interval_from-in-4-clause-none
returns-in_err-interval_from-in-4-clause-none c =
    let none : (k : Kind) → HasInterval k → MayFollow k (map view c.args.after.now) → view c.args.number.now ≢ whole (kind_number k) =
    λ k has follows same.
    no_checkpoint c.in_ok-number_from.field-0 (map view c.args.after.now) c.in-4.is c.in_err-interval_from-in-4.ensures.none k has follows (sym c.in_ok-number_from.ensures.some ∙ same) in
    if_none _ _ none
