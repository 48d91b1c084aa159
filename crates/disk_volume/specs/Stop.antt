-- In which call a volume in memory stops, and what becomes of its calls.
use Rattle.std.specs.Prelude.{ℕ, ◌-◌, ◌^◌, nat_le, nat_lt, Bool, true, false, ◌&&◌, List, ◌==◌, if◌then◌else◌}
use Rattle.disk_volume.specs.Disk.{File}
use Rattle.disk_volume.specs.Pick.{left}
use Rattle.disk_volume.specs.declared.pick.Pick.{Pick}
use Rattle.disk_volume.specs.declared.stop.Stop.{Stop}
use Rattle.disk_volume.specs.declared.stop.Stop.TheVariants.{Unset, Set, Past}

-- The volume stops in the call of this number. The count of calls stays at 2^64 - 1, so that is no call's number.
abbrev pub stops_in : Stop → ℕ → Bool
stops_in Unset call = false
stops_in (Set number pick) call = number == call && nat_lt call (2 ^ 64 - 1)
stops_in (Past pick) call = false

-- it stopped before
abbrev pub has_stopped : Stop → Bool
has_stopped Unset = false
has_stopped (Set number pick) = false
has_stopped (Past pick) = true

-- after the call of this number
abbrev pub stop_after : Stop → ℕ → Stop
stop_after Unset call = Unset
stop_after (Set number pick) call = if number == call && nat_lt call (2 ^ 64 - 1) then Past pick else Set number pick
stop_after (Past pick) call = Past pick

-- what is left of a file: by the pick if the volume has stopped, and else as it reads
abbrev pub left_by : Stop → File → List ℕ
left_by Unset f = f.now
left_by (Set number pick) f = f.now
left_by (Past pick) f = left pick f

-- after a stop was asked for
abbrev pub stop_set : Stop → ℕ → Pick → Stop
stop_set Unset call pick = Set call pick
stop_set (Set number old) call pick = Set call pick
stop_set (Past old) call pick = Past old

-- The stop, once the number of calls went from the first of these to the second. One that was set came if its call was made
-- in between, and else it is still set.
abbrev pub stop_later : (calls : ℕ) → Stop → (later_calls : ℕ) → Stop
stop_later calls Unset later_calls = Unset
stop_later calls (Set number pick) later_calls = if nat_le calls number && nat_lt number later_calls then Past pick else Set number pick
stop_later calls (Past pick) later_calls = Past pick
