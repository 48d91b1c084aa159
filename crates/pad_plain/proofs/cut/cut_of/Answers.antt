use Rattle.std.proofs.Common.{◌<◌, length, arith}
use Rattle.pad_plain.proofs.Cuts.{cut_at, tip_at_base, tip_high}
use Rattle.pad_plain.proofs.cut.cut_of.Goals as goal

pub returns-then-at-places : goal.returns-then-at-places
returns-then-at-places c =
    tip_at_base c.args.base.now c.args.received.now c.args.places.now _ c.before_checkpoint-at.result (cut_at c.args.received.now c.args.places.now c.requires.within _ _ c.before_checkpoint-last.ensures.checkpoint c.before_checkpoint-at.ensures.checkpoint) c.if-at-places.true

pub returns : goal.returns
returns c =
    let below : c.before_checkpoint-at.result < length c.args.places.now = omega (arith, c.before_checkpoint-at.ensures.within, c.if-at-places.false) in
    tip_high c.args.base.now c.args.received.now c.args.names.now c.args.places.now _ c.before_checkpoint-at.result _ c.requires.named c.requires.within (cut_at c.args.received.now c.args.places.now c.requires.within _ _ c.before_checkpoint-last.ensures.checkpoint c.before_checkpoint-at.ensures.checkpoint) below
