-- How a call of a volume in memory begins.
use Rattle.std.specs.Prelude.{if◌then◌else◌}
use Rattle.pad_edge.specs.Count.{counted}
use Rattle.disk_volume.specs.Memory.{Memory, is_listed}
use Rattle.disk_volume.specs.Stop.{stops_in, has_stopped, stop_after}
use Rattle.disk_volume.specs.declared.stop.Turn.{Turn}
use Rattle.disk_volume.specs.declared.stop.Turn.TheVariants.{Goes, Stops, Fails}

-- what becomes of that call
abbrev pub turn_of : Memory → Turn
turn_of memory = if has_stopped memory.stop then Fails else if stops_in memory.stop memory.calls then Stops else if is_listed memory then Fails else Goes

-- once that call has begun
abbrev pub begun : Memory → Memory
begun memory = record memory { calls = counted memory.calls; stop = stop_after memory.stop memory.calls }
