-- The states of the machine that a server is.
use Rattle.std.specs.Prelude.{◌≡◌, ◌≤◌, ℕ, List}
use Rattle.disk_volume.specs.Disk.{Disk}
use Rattle.disk_volume.specs.Moments.{Grew}
use Rattle.netflux_core.specs.Channels.{Channels}
use Rattle.netflux_core.specs.Crashes.{ChannelLogs}
use Rattle.netflux_core.specs.Machine.{ServeState, Step, StandsFor}
use Rattle.netflux_core.specs.Runs.{IsOwned}
use Rattle.netflux_rooms.specs.Rooms.{Identities}
use Rattle.netflux_rooms.specs.declared.room_hub.RoomHub.{RoomHub}
use Rattle.serve_loop.specs.declared.event.Event.{Event}
use Rattle.serve_loop.specs.declared.out.Out.{Out}

-- A state, with the identities of its hub and the faults that the volume had when the machine began.
pub record Serving : Type 0 where
  pub identities : Identities
  pub first : ℕ
  pub state : ServeState

-- identities and first faults stay, and the states make a step
pub record Serves (logs : ChannelLogs) (before : Serving) (moment : ℕ) (event : Event) (outs : List Out) (now : Serving) : Type 0 where
  pub step : Step logs before.identities before.state moment event outs now.state
  pub now_is : now ≡ record before { state = now.state }

-- a sound keeper, its hub and the volume are in this state
abbrev pub StandsIn : (sound : Type 0) (keeps : Channels → Disk → Type 0) → RoomHub → (disk : Disk) → (faults : ℕ) → Serving → Type 0
StandsIn sound keeps hub disk faults serving = sound × StandsFor keeps serving.identities hub disk serving.first faults serving.state

-- What steps leave of a volume: its calls follow its plan, its faults are no fewer, and where it tells, acts on files of channels alone were done.
abbrev pub LeavesBehind : (follows : Type 0) (faults_before faults_now : ℕ) (tells : Type 0) (owns : (channel file : List ℕ) → Type 0) (old new : Disk) → Type 0
LeavesBehind follows faults_before faults_now tells owns old new = follows × (faults_before ≤ faults_now) × (tells → Grew (IsOwned owns) old new)
