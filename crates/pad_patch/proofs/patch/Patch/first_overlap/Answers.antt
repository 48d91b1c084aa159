use Rattle.std.proofs.Common.{◌≡◌, ◌-◌, ap, arith, below_more, length}
use Rattle.std.proofs.lemmas.Option.{slice_get_within}
use Rattle.pad_patch.specs.declared.operation.Operation.{Operation}
use Rattle.pad_patch.specs.Piece.{end_of}
use Rattle.pad_patch.proofs.Elements.{same_element}
use Rattle.pad_patch.proofs.patch.Patch.first_overlap.Goals as goal

pub loop-index-preserved : goal.loop-index-preserved
loop-index-preserved c =
    below_more _ _ c.loop-index.invariant
    (λ (earlier, later, before, follows, is_earlier, is_later, early).
    let place : c.loop-index.index - 1 ≡ before = omega arith in
    let same_earlier = same_element c.args.self.now.ops c.as_slice-ops.result.now before c.index-ops-index-in-loop-index.result earlier c.as_slice-ops.ensures (rw place at c.index-ops-index-in-loop-index.is) is_earlier in
    let same_later = same_element c.args.self.now.ops c.as_slice-ops.result.now c.loop-index.index c.index-ops-index.result later c.as_slice-ops.ensures c.index-ops-index.is is_later in
    omega (arith, ap end_of same_earlier, ap (λ (operation : Operation). operation.offset) same_later, early, c.start.ensures, c.end.ensures, c.if-start-end.false))

pub returns : goal.returns
returns c index (earlier, later, before, follows, is_earlier, is_later, early) =
    c.loop-index.invariant index
    (omega (arith, slice_get_within c.args.self.now.ops index later is_later, ap length c.as_slice-ops.ensures))
    (earlier, later, before, follows, is_earlier, is_later, early)
