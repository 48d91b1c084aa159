use Rattle.std.proofs.Common.{◌+◌, ◌∷◌, drop, sym, ap, arith}
use Rattle.client_outbox.specs.Outbox.{Unacknowledged, all_forgotten}
use Rattle.client_outbox.proofs.Loops.{changed_next}
use Rattle.client_outbox.proofs.outbox.forget_all.Goals as goal

pub loop-own-preserved : goal.loop-own-preserved
loop-own-preserved c =
    changed_next all_forgotten all_forgotten c.loop-own.messages _ c.loop-own.own-index c.own-item.result c.forget.new.self (omega arith)
    (ap (λ (o : Unacknowledged). o ∷ all_forgotten (drop (c.loop-own.own-index + 1) c.loop-own.messages)) (sym c.forget.ensures))
    c.loop-own.invariant
