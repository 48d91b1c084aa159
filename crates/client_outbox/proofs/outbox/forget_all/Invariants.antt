-- the messages that are done, and those that are left
use Rattle.std.proofs.Common.{◌≡◌, ◌++◌, take, drop}
use Rattle.client_outbox.specs.Outbox.{all_forgotten}
use Rattle.client_outbox.proofs.outbox.forget_all.Given as goal

abbrev pub invariant-loop-own : goal.invariant-loop-own
invariant-loop-own l = take l.own-index l.messages ++ all_forgotten (drop l.own-index l.messages) ≡ all_forgotten l.initial.messages
