use Rattle.std.proofs.Common.{◌≡◌}
use Rattle.serve_loop.specs.Inside.Load.{load}
use Rattle.serve_loop.proofs.Waiting.{IsClosing}
use Rattle.serve_loop.proofs.closing.close_waiting.Given as goal

abbrev pub invariant-closings : goal.invariant-closings
invariant-closings g l = let port = g.P.Port in let machine = g.M.Machine in record {
  closing : machine.tells → (state : machine.State) → machine.stands l.fn.machine l.fn.world state
      → IsClosing port.tells machine.Step (machine.stands l.machine l.world) l.moment state l.fn.waiting.items l.waiting.items (port.sent l.fn.port) (port.sent l.port) (port.failed l.fn.port) (port.failed l.port);
  ready : machine.ready l.machine l.world;
  events : port.tells → port.events l.port ≡ port.events l.fn.port;
  counts : (port.faults l.port ≡ port.faults l.fn.port) × (port.ends l.port ≡ port.ends l.fn.port);
  leaves : machine.leaves l.fn.world l.world;
}

abbrev pub decreases-closings : goal.decreases-closings
decreases-closings g l = load (g.M.Machine.connected l.machine) l.waiting.items
