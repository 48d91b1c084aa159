use Rattle.std.proofs.Common.{◌≡◌, ◌+◌, ◌≤◌, ◌++◌, length, reverse, take, sym, ap, ◌∙◌, subst, arith, length-drop}
use Rattle.pad_branch.specs.Tip.{tip_after}
use Rattle.pad_branch.specs.Branch.{IsTrunk, state}
use Rattle.pad_branch.specs.Undo.{Rewinds}
use Rattle.pad_branch.proofs.Rising.{stands_risen, rewinds_risen}
use Rattle.pad_branch.proofs.branch.Branch.rise.Goals as goal

pub invariant_of-self : goal.invariant_of-self
invariant_of-self g c =
    let i = c.self.inside in
    let same = ap (λ v. length v.branch.undos) c.self.view_is in
    let fits : c.args.by ≤ length i.undos.items = omega (arith, c.requires, same) in
    let tip : c.tip_at-self-inside.result ≡ tip_after i.root (reverse (take c.args.by i.undos.items)) = c.tip_at-self-inside.ensures ∙ ap (λ us. tip_after i.root (reverse (take c.args.by us))) c.as_slice.ensures.value in (
      subst (λ t. Rewinds t (i.low + c.args.by) (reverse c.forget_first.new.undos.items) (g.S.UnitStore.units i.text)) (sym tip)
          (subst (λ us. Rewinds (tip_after i.root (reverse (take c.args.by i.undos.items))) (i.low + c.args.by) (reverse us) (g.S.UnitStore.units i.text)) (sym c.forget_first.ensures.undos)
          (rewinds_risen i.root i.low c.args.by i.undos.items (g.S.UnitStore.units i.text) fits c.self.invariant.0)),
      omega (arith, c.self.invariant.1, ap length c.forget_first.ensures.undos, length-drop c.args.by i.undos.items, fits),
    )

pub returns-clause-stands : goal.returns-clause-stands
returns-clause-stands g c b R below chosen joined trunk many =
    let i = c.self.inside in
    let tip : c.tip_at-self-inside.result ≡ tip_after i.root (reverse (take c.args.by i.undos.items)) = c.tip_at-self-inside.ensures ∙ ap (λ us. tip_after i.root (reverse (take c.args.by us))) c.as_slice.ensures.value in
    let was = subst (λ v. IsTrunk b R below (chosen ++ joined) v.branch) (sym c.self.view_is) trunk in
    subst (λ t. IsTrunk b R (joined ++ below) chosen (state t (i.low + c.args.by) c.forget_first.new.undos.items (g.S.UnitStore.units i.text))) (sym tip)
    (subst (λ us. IsTrunk b R (joined ++ below) chosen (state (tip_after i.root (reverse (take c.args.by i.undos.items))) (i.low + c.args.by) us (g.S.UnitStore.units i.text))) (sym c.forget_first.ensures.undos)
    (stands_risen b R below chosen joined (state i.root i.low i.undos.items (g.S.UnitStore.units i.text)) c.args.by was many))
