use Rattle.std.proofs.Common.{◌≡◌, ℕ, List, ◌++◌, length}
use Rattle.pad_edge.specs.declared.port_event.PortEvent.{PortEvent}
use Rattle.serve_loop.specs.Moments.{coming_after}
use Rattle.serve_loop.proofs.Running.{IsRunning, IsUnended}
use Rattle.serve_loop.proofs.serving.serve.Given as goal

abbrev pub invariant-loop-turn : goal.invariant-loop-turn
invariant-loop-turn g l = let port = g.P.Port in let machine = g.M.Machine in record {
  served : machine.tells → (state : machine.State) → machine.stands l.fn.machine l.fn.world state
      → IsRunning machine.Step (machine.stands l.machine l.world) state IsUnended l.turn port.tells g.C.Clock.tells (g.C.Clock.coming l.fn.clock) (port.events l.fn.port) (port.events l.port) (port.sent l.fn.port) (port.sent l.port) (port.failed l.fn.port) (port.failed l.port);
  ready : machine.ready l.machine l.world;
  coming : g.C.Clock.tells → g.C.Clock.coming l.clock ≡ coming_after l.turn (g.C.Clock.coming l.fn.clock);
  turns : port.tells → (events : List PortEvent) × (port.events l.port ≡ port.events l.fn.port ++ events) × (length events ≡ l.turn) × IsUnended events;
  counts : (port.faults l.port ≡ port.faults l.fn.port) × (port.ends l.port ≡ port.ends l.fn.port);
  leaves : machine.leaves l.fn.world l.world;
}
