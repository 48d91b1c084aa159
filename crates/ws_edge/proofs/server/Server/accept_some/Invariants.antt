-- Numbers rise, and the turn stays.
use Rattle.std.proofs.Common.{◌≡◌, ◌≤◌}
use Rattle.ws_edge.proofs.server.Server.accept_some.Given as goal

abbrev pub invariant-loop : goal.invariant-loop
invariant-loop l = record {
  later : l.initial.self.next_number ≤ l.self.next_number;
  turn : l.self.turn ≡ l.initial.self.turn;
}
