-- the texts so far, and those of the messages that are left
use Rattle.std.proofs.Common.{◌≡◌, ◌+◌, ◌++◌, drop}
use Rattle.client_outbox.specs.Outbox.{texts_again}
use Rattle.client_outbox.proofs.outbox.texts_of.Given as goal

abbrev pub invariant-loop-own : goal.invariant-loop-own
invariant-loop-own l = record {
  texts : l.texts.items ++ texts_again l.channel l.seq (drop l.own-index l.messages) ≡ texts_again l.channel l.last l.messages;
  last : l.seq ≡ l.last + l.own-index;
}
