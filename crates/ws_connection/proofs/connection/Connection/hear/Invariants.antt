-- What waits stays while nothing was taken.
use Rattle.std.proofs.Common.{◌≡◌}
use Rattle.ws_connection.proofs.connection.Connection.hear.Given as goal

abbrev pub invariant-loop : goal.invariant-loop
invariant-loop l = l.self ≡ l.fn.self
