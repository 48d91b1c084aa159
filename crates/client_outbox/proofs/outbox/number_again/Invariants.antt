-- the messages that have a number again, and those that are left
use Rattle.std.proofs.Common.{◌≡◌, ◌+◌, ◌++◌, take, drop}
use Rattle.client_outbox.specs.Outbox.{sent_again}
use Rattle.client_outbox.proofs.outbox.number_again.Given as goal

abbrev pub invariant-loop-own : goal.invariant-loop-own
invariant-loop-own l = record {
  messages : take l.own-index l.messages ++ sent_again l.last (drop l.own-index l.messages) ≡ sent_again l.initial.last l.initial.messages;
  last : l.last ≡ l.initial.last + l.own-index;
}
