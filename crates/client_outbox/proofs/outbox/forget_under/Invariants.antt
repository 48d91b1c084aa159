-- the messages that are done, and those that are left
use Rattle.std.proofs.Common.{◌≡◌, ◌++◌, take, drop}
use Rattle.client_outbox.specs.Outbox.{forgotten_under}
use Rattle.client_outbox.proofs.outbox.forget_under.Given as goal

abbrev pub invariant-loop-own : goal.invariant-loop-own
invariant-loop-own l = take l.own-index l.messages ++ forgotten_under l.number (drop l.own-index l.messages) ≡ forgotten_under l.number l.initial.messages
