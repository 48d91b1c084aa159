-- the repair has received the messages so far
use Rattle.std.proofs.Common.{◌≡◌, true, take}
use Rattle.pad_model.specs.Base.{first_base}
use Rattle.pad_model.specs.Path.{NamesDiffer}
use Rattle.pad_model.specs.Choice.{Choice}
use Rattle.pad_chain.specs.Tie.{StandsFor}
use Rattle.pad_client.specs.Repair.{sent_before}
use Rattle.pad_client.specs.Sync.{own_messages}
use Rattle.pad_client.proofs.client.repairing.begun.Given as goal

abbrev pub invariant-loop-own : goal.invariant-loop-own
invariant-loop-own g l = record {
  stands : NamesDiffer (own_messages l.owns) → (choice : Choice) × StandsFor l.repair first_base (sent_before (take l.own-index l.owns)) choice;
  whole : l.repair.whole ≡ true;
}
