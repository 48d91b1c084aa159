use Rattle.std.proofs.Common.{[], ◌∷◌, take, length-append, arith}
use Rattle.pad_plain.proofs.Places.{at_place, parents_more}
use Rattle.pad_plain.proofs.walk.parent_places.Goals as goal

pub loop-message-preserved : goal.loop-message-preserved
loop-message-preserved c =
    let many = c.loop-message.invariant.many in
    record {
      many = rw c.in_ok-push.ensures.items (omega (arith, length-append c.loop-message.parents.items (c.parent_place.result ∷ []), many));
      each = rw c.in_ok-push.ensures.items (parents_more c.args.base.now (take c.args.count c.args.messages.now) _ c.message-item.result _ (rw (many, ← c.first-message-items.ensures) (at_place _ _ _ c.loop-message-test.true c.message-item.is)) c.parent_place.ensures c.loop-message.invariant.each);
    }
