-- So far the lines of as many entries as an index says are written; where the volume tells, of those before it.
use Rattle.std.proofs.Common.{◌≡◌, ℕ, List, [], length, take}
use Rattle.keeper_channel.specs.Entries.{AreEntries}
use Rattle.pad_log.specs.Lines.{lines_from}
use Rattle.pad_log.specs.Log.{Gathers, OfEachHeld}
use Rattle.pad_log.proofs.writing.write_log.Given as goal

abbrev pub invariant-loop-index : goal.invariant-loop-index
invariant-loop-index g l = let V = g.V.Volume in let S = g.S.Sink in record {
  written : (list : List (List ℕ)) × AreEntries list × (length list ≡ l.index)
      × (V.tells → OfEachHeld g.O.Ledger.holds g.G.Ledger.holds l.channel (V.disk l.fn.volume) (λ held. list ≡ take l.index held))
      × Gathers (S.written l.fn.output) (S.written l.output) [] l.lines.items (lines_from 0 list);
  disk : V.tells → V.disk l.volume ≡ V.disk l.fn.volume;
  follows : V.follows l.fn.volume l.volume;
  faults : V.faults l.volume ≡ V.faults l.fn.volume;
  writes : S.faults l.output ≡ S.faults l.fn.output;
}
