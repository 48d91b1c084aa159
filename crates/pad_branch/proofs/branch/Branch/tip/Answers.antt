use Rattle.std.proofs.Common.{◌≡◌, ◌+◌, length, take, reverse, sym, ap, ◌∙◌, subst}
use Rattle.pad_branch.specs.Tip.{IsTipOf, tip_after}
use Rattle.pad_branch.specs.Branch.{height_of}
use Rattle.pad_branch.proofs.Rewinding.{end_stands}
use Rattle.pad_branch.proofs.Rising.{take_all}
use Rattle.pad_branch.proofs.branch.Branch.tip.Goals as goal

pub returns-clause-stands : goal.returns-clause-stands
returns-clause-stands g c =
    let i = c.self.inside in
    let n : c.len.result ≡ length c.as_slice.result.now = c.len.ensures ∙ sym c.as_slice.ensures.len in
    let same : take c.len.result c.as_slice.result.now ≡ i.undos.items = ap (λ k. take k c.as_slice.result.now) n ∙ take_all c.as_slice.result.now ∙ c.as_slice.ensures.value in
    let tip : c.tip_at.result ≡ tip_after i.root (reverse i.undos.items) = c.tip_at.ensures ∙ ap (λ us. tip_after i.root (reverse us)) same in
    subst (λ v. IsTipOf c.tip_at.result (height_of v.branch) v.branch.units) c.self.view_is
    (subst (λ t. IsTipOf t (i.low + length i.undos.items) (g.S.UnitStore.units i.text)) (sym tip) (end_stands i.root i.low i.undos.items (g.S.UnitStore.units i.text) c.self.invariant.0))
