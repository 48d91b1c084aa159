-- What private functions say of how the answer of the rooms ends.
use Rattle.std.specs.Prelude.{ℕ, List}
use Rattle.disk_volume.specs.Disk.{Disk}
use Rattle.netflux_rooms.specs.Machine.{Answer}
use Rattle.netflux_rooms.specs.Rooms.{Identities}
use Rattle.netflux_rooms.specs.declared.room_hub.RoomHub.{RoomHub}
use Rattle.netflux_core.specs.Channels.{Channels}
use Rattle.netflux_core.specs.Crashes.{ChannelLogs}
use Rattle.netflux_core.specs.Machine.{ServeState, Becomes, StandsFor}
use Rattle.serve_loop.specs.declared.out.Out.{Out}

-- these outputs come of an answer, and hub, keeper and volume are in a state that it leads to
pub record Ends (logs : ChannelLogs) (keeps : Channels → Disk → Type 0) (identities : Identities) (hub : RoomHub) (disk : Disk) (first faults : ℕ)
    (state : ServeState) (moment : ℕ) (answer : Answer) (outs : List Out) : Type 0 where
  pub next : ServeState
  pub becomes : Becomes logs identities state moment outs next answer
  pub stands : StandsFor keeps identities hub disk first faults next
