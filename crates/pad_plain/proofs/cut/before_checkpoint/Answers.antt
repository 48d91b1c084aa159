use Rattle.std.proofs.Common.{◌∙◌, ap, sym}
use Rattle.pad_message.specs.Kind.{is_checkpoint}
use Rattle.pad_plain.proofs.Cuts.{checkpoint_here, patch_here}
use Rattle.pad_plain.proofs.cut.before_checkpoint.Goals as goal

pub returns-then-is_checkpoint-clause-checkpoint : goal.returns-then-is_checkpoint-clause-checkpoint
returns-then-is_checkpoint-clause-checkpoint c =
    c.loop-at.invariant ∙ checkpoint_here c.args.received.now c.args.places.now c.requires c.loop-at.at c.index-received-places.result c.loop-at-test.true c.index-received-places.is
    (ap (λ m. is_checkpoint m.kind) c.index-received-places.is ∙ sym c.is_checkpoint.ensures ∙ c.if-is_checkpoint.true)

pub loop-at-preserved : goal.loop-at-preserved
loop-at-preserved c =
    c.loop-at.invariant ∙ patch_here c.args.received.now c.args.places.now c.requires c.loop-at.at c.index-received-places.result c.loop-at-test.true c.index-received-places.is
    (ap (λ m. is_checkpoint m.kind) c.index-received-places.is ∙ sym c.is_checkpoint.ensures ∙ c.if-is_checkpoint.false)
