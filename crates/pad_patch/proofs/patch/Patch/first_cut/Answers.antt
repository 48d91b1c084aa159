use Rattle.std.proofs.Common.{inl, inr, sym, ◌∙◌, ap, subst, arith, below_more, length}
use Rattle.std.proofs.lemmas.Option.{slice_get_within}
use Rattle.pad_text.specs.Text.{CutsPair}
use Rattle.pad_patch.specs.declared.operation.Operation.{Operation}
use Rattle.pad_patch.specs.Piece.{end_of}
use Rattle.pad_patch.proofs.Elements.{same_element}
use Rattle.pad_patch.proofs.patch.Patch.first_cut.Goals as goal

pub loop-index-preserved : goal.loop-index-preserved
loop-index-preserved g c =
    let units = g.S.UnitStore.units c.args.text.now in
    below_more _ _ c.loop-index.invariant
    (λ (operation, is_operation, cut).
    let same = same_element c.args.self.now.ops c.as_slice-op-items.result.now c.loop-index.index c.op-item.result operation c.as_slice-op-items.ensures c.op-item.is is_operation in
    let no_start : CutsPair units c.start.result → ⊥ = λ cut_there. let says = c.cuts_pair.ensures.1 cut_there in cc in
    let no_end : CutsPair units c.end.result → ⊥ = λ cut_there. let says = c.cuts_pair-else-cuts_pair.ensures.1 cut_there in cc in
    elim cut [
      | inl at_start ↦ no_start (subst (CutsPair units) (ap (λ (o : Operation). o.offset) same ∙ sym c.start.ensures) at_start)
      | inr at_end ↦ no_end (subst (CutsPair units) (ap end_of same ∙ sym c.end.ensures) at_end)
    ])

pub returns : goal.returns
returns g c index (operation, is_operation, cut) =
    c.loop-index.invariant index
    (omega (arith, slice_get_within c.args.self.now.ops index operation is_operation, ap length c.as_slice-op-items.ensures))
    (operation, is_operation, cut)
