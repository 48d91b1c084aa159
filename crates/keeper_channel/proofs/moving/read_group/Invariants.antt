use Rattle.std.proofs.Common.{◌≡◌, ℕ, List, length, take, drop}
use Rattle.keeper_channel.specs.Chan.{moved}
use Rattle.keeper_channel.specs.Entries.{AreEntries}
use Rattle.keeper_channel.proofs.moving.read_group.Given as goal

abbrev pub invariant-loop-place : goal.invariant-loop-place
invariant-loop-place g l = let V = g.V.Volume in record {
  many : length l.entries.items ≡ l.place;
  entries : AreEntries l.entries.items;
  group : V.tells → (old : List (List ℕ)) → g.O.Ledger.holds l.one old (V.disk l.fn.volume) → l.entries.items ≡ moved (take l.place (drop l.first old));
  disk : V.tells → V.disk l.volume ≡ V.disk l.fn.volume;
  follows : V.follows l.fn.volume l.volume;
  faults : V.faults l.volume ≡ V.faults l.fn.volume;
}
