-- What waits stays.
use Rattle.std.proofs.Common.{◌≡◌}
use Rattle.ws_connection.proofs.connection.Connection.leave.Given as goal

abbrev pub invariant-loop : goal.invariant-loop
invariant-loop l = l.self-inside.outbox ≡ l.fn.self
