-- The state of a hub and a keeper over a volume in memory.
use Rattle.std.specs.Prelude.{◌≡◌, ℕ, ◌+◌, ◌-◌, Bool, true, false, replicate, List, []}
use Rattle.disk_volume.specs.Disk.{Disk, AtRest}
use Rattle.disk_volume.specs.Memory.{Memory, fresh, disk_of}
use Rattle.disk_volume.specs.Stop.{stop_set}
use Rattle.disk_volume.specs.declared.pick.Pick.{Pick}
use Rattle.disk_volume.specs.declared.stop.Stop.{Stop}
use Rattle.disk_volume.specs.declared.stop.Stop.TheVariants.{Unset, Set, Past}
use Rattle.netflux_rooms.specs.Identity.{identities_of}
use Rattle.netflux_rooms.specs.Rooms.{Identities}
use Rattle.netflux_rooms.specs.Whole.{IsWhole}
use Rattle.netflux_rooms.specs.declared.room_hub.RoomHub.{RoomHub}
use Rattle.netflux_core.specs.Channels.{Channels, no_channels}
use Rattle.netflux_core.specs.Machine.{ServeState, StandsFor, serve_begins}

pub record HubState : Type 0 where
  -- hub and keeper; the files of the machine are those of the volume
  pub server : ServeState
  -- how often it was reopened, which is the stream of the identities
  pub stream : ℕ
  -- how many steps the hub made, over all reopenings
  pub moment : ℕ
  pub volume : Memory

-- at first nobody is connected, and the volume has no file
abbrev pub new_hub : HubState
new_hub = record { server = serve_begins (disk_of (fresh [] [])); stream = 0; moment = 0; volume = fresh [] [] }

-- the identities: the key is 32 zeros
abbrev pub identities_at : (stream : ℕ) → Identities
identities_at stream = identities_of (replicate 32 0) stream

-- a stop is set, which has not come
abbrev pub is_set : Stop → Bool
is_set Unset = false
is_set (Set number pick) = true
is_set (Past pick) = false

-- a stop was set, which may have come
abbrev pub was_set : Stop → Bool
was_set Unset = false
was_set (Set number pick) = true
was_set (Past pick) = true

-- the call of this number from now on, counted from 1, is to stop the volume
abbrev pub with_stop : HubState → ℕ → Pick → HubState
with_stop state call pick = record state { volume = record state.volume { stop = stop_set state.volume.stop (state.volume.calls + call - 1) pick } }

-- hub, keeper and volume in memory are in this state
pub record StandsAs (keeps : Channels → Disk → Type 0) (rooms : RoomHub) (volume : Memory) (stream moment : ℕ) (state : HubState) : Type 0 where
  pub volume_is : state.volume ≡ volume
  pub stream_is : state.stream ≡ stream
  pub moment_is : state.moment ≡ moment
  pub first : ℕ
  pub stands : StandsFor keeps (identities_at stream) rooms (disk_of volume) first volume.faults state.server

-- what holds of hub and keeper between calls
pub record IsReady (is_sound : Type 0) (keeps : Channels → Disk → Type 0) (rooms : RoomHub) (volume : Memory) (was_stop_set : Bool) : Type 0 where
  pub whole : IsWhole rooms
  pub sound : is_sound
  pub tie : (channels : Channels) × keeps channels (disk_of volume)
  pub set : was_set volume.stop ≡ was_stop_set

-- a keeper that has loaded no channel: it has every channel on each disk where nothing is pending
pub record IsNew (is_sound : Type 0) (keeps : Channels → Disk → Type 0) : Type 0 where
  pub sound : is_sound
  pub keeps_none : (disk : Disk) → ((file : List ℕ) → AtRest disk file) → keeps no_channels disk
