-- No number is given.
use Rattle.std.proofs.Common.{◌≡◌}
use Rattle.ws_edge.proofs.server.Server.give_up_closing.Given as goal

abbrev pub invariant-loop : goal.invariant-loop
invariant-loop l = l.self ≡ l.initial.self
