-- In which state a run of the serve machine ends, or stops.
use Rattle.std.specs.Prelude.{◌≡◌, ◌⊎◌, ◌≤◌, ◌+◌, ◌-◌, ◌^◌, ◌∷◌, ◌++◌, [], min, List, ℕ, Result}
use Rattle.disk_volume.specs.Disk.{Disk, reads}
use Rattle.hub_server.specs.Serving.{Serving, Serves}
use Rattle.keeper_channel.specs.declared.refused.KeeperRefused.{KeeperRefused}
use Rattle.keeper_entry.specs.Entry.{payload_of}
use Rattle.keeper_state.specs.State.{State, unseen, lists, Stores, AnswersByReading}
use Rattle.netflux_core.specs.Channels.{Channels, Changes}
use Rattle.netflux_core.specs.Crashes.{ChannelLogs}
use Rattle.netflux_core.specs.Histories.{channel_of}
use Rattle.netflux_core.specs.Machine.{ServeState, serve_begins}
use Rattle.netflux_core.specs.Stored.{stored_in}
use Rattle.netflux_rooms.specs.Identity.{identities_of}
use Rattle.netflux_rooms.specs.Machine.{Answer, made, stores, asks, Steps}
use Rattle.netflux_rooms.specs.Rooms.{Identities, id_of}
use Rattle.pad_edge.specs.declared.port_event.PortEvent.{PortEvent}
use Rattle.pad_edge.specs.declared.sent.Sent.{Sent}
use Rattle.serve_loop.specs.Run.{IsServed}
use Rattle.serve_loop.specs.Stop.{IsStopped}
use Rattle.serve_loop.specs.declared.event.Event.{Event}
use Rattle.pad_text.specs.Digits.{IsDigits}
use Rattle.pad_serve.specs.Leaves.{Leaves}

-- before any event: nobody is connected, no channel was loaded; identities are those of the key
abbrev pub serving_begins : (key : List ℕ) → (faults : ℕ) → Disk → Serving
serving_begins key faults disk = record { identities = identities_of key 0; first = faults; state = serve_begins disk }

-- The files of a channel that is not loaded read as at entry, and nothing was stored in it. Those of each other read as the list that they gave at
-- entry, and then what was stored in it, in order.
abbrev pub IsAllStored : (logs : ChannelLogs) → (entry now : Disk) → ServeState → (channel : List ℕ) → Type 0
IsAllStored logs entry now state channel =
    ((state.channels.at channel ≡ unseen) × (stored_in channel state.stored ≡ []) × ((file : List ℕ) → logs.owns channel file → reads now file ≡ reads entry file))
    ⊎ ((list : List (List ℕ)) × (doubtful : List (List ℕ)) × logs.finds channel (reads entry) (lists list doubtful) × logs.lists channel (reads now) (list ++ stored_in channel state.stored))

-- The machine is in this state now, and a crash leaves what that says. Each step that gave `ESTORE` has a fault of its own. If none did, all that was
-- stored in a channel stands in its files behind the list at entry.
pub record Ends (logs : ChannelLogs) (entry now : Disk) (faults : ℕ) (serving : Serving) : Type 0 where
  pub disk_is : serving.state.disk ≡ now
  pub failures : min (serving.first + serving.state.failures) (2 ^ 64 - 1) ≤ faults
  pub leaves : Leaves logs entry serving.state.channels serving.state.stored now
  pub all_stored : serving.state.failures ≡ 0 → (channel : List ℕ) → IsDigits 32 channel → IsAllStored logs entry now serving.state channel

-- So it ended. If no step gave `ESTORE`, no call of the volume failed.
abbrev pub EndsWhole : (logs : ChannelLogs) → (entry now : Disk) → (faults : ℕ) → Serving → Type 0
EndsWhole logs entry now faults serving = Ends logs entry now faults serving × (serving.state.failures ≡ 0 → faults ≡ serving.first)

-- a step that came to the keeper left the channels so, before memory ran out
abbrev pub LeftBy : (logs : ChannelLogs) → Identities → ServeState → (moment : ℕ) → Channels → Answer → Type 0
LeftBy logs identities state moment channels (made what) = ⊥
LeftBy logs identities state moment channels (stores number seq channel content) = (result : Result ℕ KeeperRefused) × (now : State)
    × Stores (logs.finds channel (reads state.disk)) state.channels.loaded (state.channels.at channel) (payload_of moment (id_of identities state.rooms number) content ∷ []) result now
    × Changes state.channels channel now channels
LeftBy logs identities state moment channels (asks number seq ask) = (result : Result (List (List ℕ)) KeeperRefused) × (now : State)
    × AnswersByReading (logs.finds (channel_of ask) (reads state.disk)) state.channels.loaded (state.channels.at (channel_of ask)) (λ held told. told ≡ held) result now
    × Changes state.channels (channel_of ask) now channels

-- Memory ran out in a step, of which no output went out: what is held of the channels is as before it, or what the step came to, and a crash leaves
-- what that says. What was stored before it is held.
abbrev pub BreaksOff : (logs : ChannelLogs) → (entry now : Disk) → Serving → (moment : ℕ) → Event → Type 0
BreaksOff logs entry now serving moment event = (channels : Channels)
    × ((channels ≡ serving.state.channels) ⊎ Steps serving.identities serving.state.rooms event (LeftBy logs serving.identities serving.state moment channels))
    × Leaves logs entry channels serving.state.stored now

-- A port was served by the serve machine, which began with the files of a disk: it did a run, and ended so. Where the port tells, that is a run over the
-- events given, and what went out is what it sends.
abbrev pub IsServedBy : (logs : ChannelLogs) → (key : List ℕ) → (entry now : Disk) → (faults_before faults_now : ℕ) → (turns calls : ℕ) → (port_tells clock_tells : Type 0) → (coming : List ℕ)
    → (events_before events_now : List PortEvent) → (gone_before gone_now : List Sent) → (failed_before failed_now : List ℕ) → Type 0
IsServedBy logs key entry now faults_before faults_now turns calls port_tells clock_tells coming events_before events_now gone_before gone_now failed_before failed_now =
    IsServed (λ before moment event outs after. Serves logs before moment event outs after) (EndsWhole logs entry now faults_now) (serving_begins key faults_before entry)
    turns calls port_tells clock_tells coming events_before events_now gone_before gone_now failed_before failed_now

-- The same of a run that stopped, between two events or within one.
abbrev pub IsStoppedBy : (logs : ChannelLogs) → (key : List ℕ) → (entry now : Disk) → (faults_before faults_now : ℕ) → (turns : ℕ) → (port_tells clock_tells : Type 0) → (coming : List ℕ)
    → (events_before events_now : List PortEvent) → (gone_before gone_now : List Sent) → (failed_before failed_now : List ℕ) → Type 0
IsStoppedBy logs key entry now faults_before faults_now turns port_tells clock_tells coming events_before events_now gone_before gone_now failed_before failed_now =
    IsStopped (λ before moment event outs after. Serves logs before moment event outs after) (Ends logs entry now faults_now) (BreaksOff logs entry now) (serving_begins key faults_before entry)
    turns port_tells clock_tells coming events_before events_now gone_before gone_now failed_before failed_now
