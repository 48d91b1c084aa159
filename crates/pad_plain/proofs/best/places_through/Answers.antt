use Rattle.std.proofs.Common.{sym, subst}
use Rattle.pad_model.specs.Choice.{RunsThrough}
use Rattle.pad_plain.specs.Inside.Walk.{messages_at}
use Rattle.pad_plain.proofs.Throughs.{same_path}
use Rattle.pad_plain.proofs.best.places_through.Goals as goal

pub returns-then-not-runs_through-clause-through : goal.returns-then-not-runs_through-clause-through
returns-then-not-runs_through-clause-through c d path is m before at linked runs =
    let to = rw c.in-Some.is at c.in_ok-places.ensures.some in
    let same = same_path c.args.base.now c.args.received.now _ _ to d m before at linked in
    subst (λ v. ¬ (RunsThrough path (messages_at c.args.received.now v))) c.as_slice.ensures.value (c.if-not-runs_through.ensures d path is) (subst (RunsThrough path) same runs)

pub returns-clause-through : goal.returns-clause-through
returns-clause-through c d path is m before at linked =
    let to = rw c.in-Some.is at c.in_ok-places.ensures.some in
    let same = same_path c.args.base.now c.args.received.now _ _ to d m before at linked in
    subst (RunsThrough path) (sym same) (subst (λ v. RunsThrough path (messages_at c.args.received.now v)) c.as_slice.ensures.value (c.if-not-runs_through.ensures d path is))
