-- What is left of what waited.
use Rattle.std.proofs.Common.{◌≤◌}
use Rattle.ws_connection.specs.Sending.{IsLeft, KeepsRefusal}
use Rattle.ws_outbox.specs.Outbox.{to_send, unsent}
use Rattle.ws_connection.proofs.connection.Connection.write_some.Given as goal

abbrev pub invariant-loop : goal.invariant-loop
invariant-loop l = record {
  left : IsLeft (to_send l.fn.self) (to_send l.self);
  fewer : unsent l.self ≤ unsent l.fn.self;
  kept : KeepsRefusal l.fn.self l.self;
}
