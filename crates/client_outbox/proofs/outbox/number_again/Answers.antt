use Rattle.std.proofs.Common.{◌+◌, ◌∷◌, drop, sym, ap, arith}
use Rattle.client_outbox.specs.Outbox.{Unacknowledged, sent_again}
use Rattle.client_outbox.proofs.Loops.{changed_next}
use Rattle.client_outbox.proofs.outbox.number_again.Goals as goal

pub loop-own-preserved : goal.loop-own-preserved
loop-own-preserved c = record {
  messages = changed_next (sent_again c.loop-own.last) (sent_again (c.loop-own.last + 1)) c.loop-own.messages _ c.loop-own.own-index c.own-item.result c.number_again.new.self (omega arith)
      (ap (λ (o : Unacknowledged). o ∷ sent_again (c.loop-own.last + 1) (drop (c.loop-own.own-index + 1) c.loop-own.messages)) (sym c.number_again.ensures))
      c.loop-own.invariant.messages;
  last = omega arith;
}
