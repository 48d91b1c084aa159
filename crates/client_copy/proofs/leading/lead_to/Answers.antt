use Rattle.std.proofs.Common.{List, [], ℕ, true≢false, sym, subst}
use Rattle.client_copy.proofs.LeftMoves.{LeftFrom, leads_when, leads_not}
use Rattle.client_copy.proofs.leading.lead_to.Goals as goal

pub returns-in_default-2-clause-lead : goal.returns-in_default-2-clause-lead
returns-in_default-2-clause-lead g c =
    let fork = g.S.UnitStore.units c.in-Some.fork in
    let from = g.S.UnitStore.units c.args.from.now in
    let first : LeftFrom c.args.back.now [] fork from =
    subst (λ (units : List ℕ). LeftFrom c.args.back.now [] fork units) c.in_ok-text.ensures (rw c.in-Some.is at c.in_ok-fork.ensures.some) in (
      λ no. absurd (true≢false (sym no)),
      λ leads. absurd (leads_not c.args.back.now c.args.on.now from fork (g.S.UnitStore.units c.args.to.now) first (rw c.in_default-2.is at c.in_ok-end.ensures.none) leads),
    )

pub returns-clause-lead : goal.returns-clause-lead
returns-clause-lead g c =
    let fork = g.S.UnitStore.units c.in-Some.fork in
    let end = g.S.UnitStore.units c.in-Some-2.end in
    let from = g.S.UnitStore.units c.args.from.now in
    let first : LeftFrom c.args.back.now [] fork from =
    subst (λ (units : List ℕ). LeftFrom c.args.back.now [] fork units) c.in_ok-text.ensures (rw c.in-Some.is at c.in_ok-fork.ensures.some) in
    let when = leads_when c.args.back.now c.args.on.now from fork end first (rw c.in-Some-2.is at c.in_ok-end.ensures.some) (g.S.UnitStore.units c.args.to.now) in
    (λ same. when.0 (c.is_same_text.ensures.0 same), λ leads. c.is_same_text.ensures.1 (when.1 leads))
