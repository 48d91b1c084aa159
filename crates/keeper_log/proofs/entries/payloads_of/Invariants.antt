use Rattle.std.proofs.Common.{◌≡◌, take, map}
use Rattle.keeper_channel.specs.Entries.{AreEntries}
use Rattle.keeper_log.specs.Entries.{payload_in}
use Rattle.keeper_log.proofs.entries.payloads_of.Given as goal

abbrev pub invariant-loop-place : goal.invariant-loop-place
invariant-loop-place l = record {
  built : l.payloads.items ≡ map payload_in (take l.place l.all);
  entries : AreEntries l.payloads.items;
}
