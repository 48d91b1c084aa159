-- What a run of `serve` ends with and writes, and what the files of channels are.
use Rattle.std.specs.Prelude.{◌≡◌, ℕ, List, [], Option}
use Rattle.disk_volume.specs.Disk.{Disk}
use Rattle.log_format.specs.File.{doubt_of}
use Rattle.hub_keeper.specs.Keeping.{logs_of}
use Rattle.netflux_core.specs.Crashes.{ChannelLogs}
use Rattle.pad_edge.specs.declared.port_event.PortEvent.{PortEvent}
use Rattle.pad_edge.specs.declared.sent.Sent.{Sent}
use Rattle.pad_output.specs.Output.{AppendsPartOfSome}
use Rattle.pad_serve.specs.Ends.{IsServedBy, IsStoppedBy}
use Rattle.pad_serve.specs.Turns.{IsMade, turns_text}
use Rattle.pad_top.specs.Log.{OpensAs, damage_in}
use Rattle.pad_top.specs.declared.status.Status.{Status}
use Rattle.pad_top.specs.declared.status.Status.TheVariants as status
use Rattle.pad_top.specs.Status.{status_line}

-- what the two files of a channel are to a server: the lists that they open as, their doubts and their damages
abbrev pub channel_logs : ChannelLogs
channel_logs = logs_of OpensAs OpensAs (λ form file files. doubt_of (files file)) damage_in damage_in (λ name file. file ≡ name) (λ name file. file ≡ name)

-- A server was done: it made so many calls of `next`, and where the volume tells what its files hold, it did a run of the serve machine on the files
-- at entry and left what that says. Where the port tells, that is a run over the events given, and what went out is what it sends.
abbrev pub IsDone : (key : List ℕ) → (turns : ℕ) → (ended volume_tells port_tells clock_tells : Type 0) → (entry now : Disk) → (faults_before faults_now : ℕ) → (coming : List ℕ)
    → (events_before events_now : List PortEvent) → (gone_before gone_now : List Sent) → (failed_before failed_now : List ℕ) → (made : ℕ) → Type 0
IsDone key turns ended volume_tells port_tells clock_tells entry now faults_before faults_now coming events_before events_now gone_before gone_now failed_before failed_now made =
    IsMade turns ended port_tells events_before events_now made
    × (volume_tells → IsServedBy channel_logs key entry now faults_before faults_now turns made port_tells clock_tells coming events_before events_now gone_before gone_now failed_before failed_now)

-- The same of a server that stopped: where the volume tells, its run did, between two events or within one.
abbrev pub HasStopped : (key : List ℕ) → (turns : ℕ) → (volume_tells port_tells clock_tells : Type 0) → (entry now : Disk) → (faults_before faults_now : ℕ) → (coming : List ℕ)
    → (events_before events_now : List PortEvent) → (gone_before gone_now : List Sent) → (failed_before failed_now : List ℕ) → Type 0
HasStopped key turns volume_tells port_tells clock_tells entry now faults_before faults_now coming events_before events_now gone_before gone_now failed_before failed_now =
    volume_tells → IsStoppedBy channel_logs key entry now faults_before faults_now turns port_tells clock_tells coming events_before events_now gone_before gone_now failed_before failed_now

-- When a run of `serve` that no write stops ends with a status, and all that it writes then. `done` says that it was done after so many calls of `next`,
-- and `stopped` that it stopped before; `store_failed` that a call of the volume failed, and `link_failed` one of the port.
abbrev pub ServeEnds : (done : (made : ℕ) → Type 0) → (stopped store_failed link_failed : Type 0) → Status → List ℕ → Type 0
ServeEnds done stopped store_failed link_failed status.Ok output = (made : ℕ) × done made × (output ≡ turns_text made)
ServeEnds done stopped store_failed link_failed status.Usage output = ⊥
ServeEnds done stopped store_failed link_failed status.ReadFault output = ⊥
ServeEnds done stopped store_failed link_failed status.WriteFault output = ⊥
ServeEnds done stopped store_failed link_failed status.StoreFault output = store_failed × stopped × (output ≡ status_line status.StoreFault)
ServeEnds done stopped store_failed link_failed status.LinkFault output = link_failed × stopped × (output ≡ status_line status.LinkFault)
ServeEnds done stopped store_failed link_failed status.Limit output = ⊥
ServeEnds done stopped store_failed link_failed (status.BadScript number) output = ⊥
ServeEnds done stopped store_failed link_failed status.NoMemory output = stopped × (output ≡ [])
ServeEnds done stopped store_failed link_failed status.Damaged output = ⊥
ServeEnds done stopped store_failed link_failed status.EndedEarly output = ⊥

-- a run of `serve` that a failed write stopped wrote a part from the front of what it would have written
abbrev pub ServeIsCutShort : (done : (made : ℕ) → Type 0) → (stopped store_failed link_failed : Type 0) → (old new : Option (List ℕ)) → Type 0
ServeIsCutShort done stopped store_failed link_failed old new = (status : Status) × AppendsPartOfSome (ServeEnds done stopped store_failed link_failed status) old new
