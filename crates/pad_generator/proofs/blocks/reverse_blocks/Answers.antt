use Rattle.std.proofs.Common.{◌≡◌, ◌-◌, ◌*◌, ◌<◌, ◌∙◌, ap, length, min, arith}
use borrow.Rule.Slice.PartMut.{put_mid}
use Rattle.pad_generator.proofs.Turned.{turns_one}
use Rattle.pad_generator.proofs.blocks.reverse_blocks.Goals as goal
use Rattle.pad_generator.proofs.blocks.reverse_blocks.Goals.{then-size-from-lt-BLOCK, else-size-from-lt-BLOCK}

pub loop-block-preserved : goal.loop-block-preserved
loop-block-preserved c =
    let from = 16 * c.loop-block.block in
    let size = length c.args.contents.now in
    let within : from < size = omega (arith, c.loop-block-test.true, c.div_ceil-block-end.ensures) in
    let as_many : c.if-size-from-lt-BLOCK.to - from ≡ min 16 (size - from) =
    elim c.if-size-from-lt-BLOCK.branch [ then-size-from-lt-BLOCK w ↦ omega arith | else-size-from-lt-BLOCK w ↦ omega arith ] in
    ap (put_mid from (c.if-size-from-lt-BLOCK.to - from) c.loop-block.contents) c.reverse.ensures.after
    ∙ turns_one c.loop-block.block (c.if-size-from-lt-BLOCK.to - from) c.args.contents.now c.loop-block.contents within c.loop-block.invariant as_many
