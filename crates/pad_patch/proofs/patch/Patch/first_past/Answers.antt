use Rattle.std.proofs.Common.{ap, arith, below_more, length}
use Rattle.std.proofs.lemmas.Option.{slice_get_within}
use Rattle.pad_patch.specs.Piece.{end_of}
use Rattle.pad_patch.proofs.Elements.{same_element}
use Rattle.pad_patch.proofs.patch.Patch.first_past.Goals as goal

pub loop-index-preserved : goal.loop-index-preserved
loop-index-preserved c =
    below_more _ _ c.loop-index.invariant
    (λ (operation, is_operation, late).
    let same = same_element c.args.self.now.ops c.as_slice-op-items.result.now c.loop-index.index c.op-item.result operation c.as_slice-op-items.ensures c.op-item.is is_operation in
    omega (arith, ap end_of same, late, c.end.ensures, c.if-size-end.false))

pub returns : goal.returns
returns c index (operation, is_operation, late) =
    c.loop-index.invariant index
    (omega (arith, slice_get_within c.args.self.now.ops index operation is_operation, ap length c.as_slice-op-items.ensures))
    (operation, is_operation, late)
