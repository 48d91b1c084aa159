use Rattle.std.proofs.Common.{◌+◌, ◌∷◌, drop, sym, ap, arith}
use Rattle.client_outbox.specs.Outbox.{Unacknowledged, forgotten_under}
use Rattle.client_outbox.proofs.Loops.{changed_next}
use Rattle.client_outbox.proofs.outbox.forget_under.Goals as goal

pub loop-own-preserved : goal.loop-own-preserved
loop-own-preserved c =
    changed_next (forgotten_under c.args.number) (forgotten_under c.args.number) c.loop-own.messages _ c.loop-own.own-index c.own-item.result c.forget_under.new.self (omega arith)
    (ap (λ (o : Unacknowledged). o ∷ forgotten_under c.args.number (drop (c.loop-own.own-index + 1) c.loop-own.messages)) (sym c.forget_under.ensures))
    c.loop-own.invariant
