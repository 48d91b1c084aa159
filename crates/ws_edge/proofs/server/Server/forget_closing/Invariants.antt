-- No number is given.
use Rattle.std.proofs.Common.{◌≡◌}
use Rattle.ws_edge.proofs.server.Server.forget_closing.Given as goal

abbrev pub invariant-loop-place : goal.invariant-loop-place
invariant-loop-place l = record {
  number : l.self-inside.next_number ≡ l.fn.self.next_number;
  turn : l.self-inside.turn ≡ l.fn.self.turn;
}
