use Rattle.std.proofs.Common.{◌≡◌, ◌+◌, ◌↔◌, ◌∷◌, drop, length, refl, sym, ◌∙◌, ap, subst, arith}
use Rattle.pad_patch.proofs.CallerLemmas.{IsLaid, IsLaid-before, laid}
use Rattle.pad_patch.specs.Piece.{end_of}
use Rattle.pad_merge.specs.Merge.{AreTurned}
use Rattle.pad_merge.proofs.Sources.{drop-next}
use Rattle.pad_merge.proofs.Standing.{turned_next}
use Rattle.pad_merge.proofs.checking.are_turned.Goals as goal

pub loop-op-init : goal.loop-op-init
loop-op-init c =
    rw (c.as_slice-op-items.ensures, c.as_slice-left.ensures) (record {
      laid_out = laid c.args.p.now c.args.len c.requires.ordered c.requires.inside;
      small = omega arith;
      turned = (λ are. are, λ are. are);
    })

pub loop-op-preserved : goal.loop-op-preserved
loop-op-preserved c =
    let items = c.as_slice-op-items.result.now in
    let index = c.loop-op.op-index in
    let inserted = c.loop-op.inserted in
    let removed = c.loop-op.removed in
    let operation = c.op-item.result in
    let later = drop (index + 1) items in
    let first = c.in-Some.first.now in
    let rest = c.in-Some.rest.now in
    let split = drop-next items index operation c.loop-op-test.true c.op-item.is in
    let laid_out = subst (IsLaid removed c.args.len) split c.loop-op.invariant.laid_out in
    let parts : c.loop-op.left.now ≡ first ∷ rest = c.in-Some.ensures.cases.0 in
    let all = subst (λ backs. AreTurned inserted removed (operation ∷ later) backs ↔ AreTurned 0 0 c.args.p.now.ops c.args.back.now.ops) parts
    (subst (λ os. AreTurned inserted removed os c.loop-op.left.now ↔ AreTurned 0 0 c.args.p.now.ops c.args.back.now.ops) split c.loop-op.invariant.turned) in
    rw c.len-inserted.ensures (record {
      laid_out = IsLaid-before (removed + operation.remove) (end_of operation) c.args.len later (omega (arith, laid_out.0)) laid_out.2;
      small = c.is_turned.ensures.bounded c.if-not-is_turned.false;
      turned = turned_next inserted removed operation first later rest (AreTurned 0 0 c.args.p.now.ops c.args.back.now.ops) (c.is_turned.ensures.turned.0 c.if-not-is_turned.false) all;
    })
