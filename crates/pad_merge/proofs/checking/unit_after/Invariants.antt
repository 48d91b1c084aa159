-- the unit at a place is that at what is left of it, behind the operations so far
use Rattle.std.proofs.Common.{◌≡◌, drop}
use Rattle.std.specs.Prelude.{slice_get}
use Rattle.std.specs.Option.{option_map}
use Rattle.pad_patch.proofs.CallerLemmas.{IsLaid}
use Rattle.pad_merge.specs.UnitSource.{sources_of}
use Rattle.pad_merge.specs.Inside.Meeting.{new_of}
use Rattle.pad_merge.proofs.Standing.{shown_at}
use Rattle.pad_merge.proofs.checking.unit_after.Given as goal

abbrev pub invariant-loop-op : goal.invariant-loop-op
invariant-loop-op l =
    let left = drop l.op-index l.op-items in
    record {
      laid_out : IsLaid l.place l.len left;
      shown : shown_at l.len l.place left l.left ≡ option_map new_of (slice_get (sources_of l.patch l.len) l.at);
    }
