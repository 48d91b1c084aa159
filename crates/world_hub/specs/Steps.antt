-- What a step and a reopening do.
use Rattle.std.specs.Prelude.{◌≡◌, ◌⊎◌, ℕ, ◌+◌, List, []}
use Rattle.disk_volume.specs.Disk.{file_at, at_rest}
use Rattle.disk_volume.specs.Memory.{Memory, Follows, fresh, disk_of}
use Rattle.disk_volume.specs.Stop.{left_by}
use Rattle.serve_loop.specs.declared.event.Event.{Event}
use Rattle.serve_loop.specs.declared.out.Out.{Out}
use Rattle.netflux_core.specs.Crashes.{ChannelLogs}
use Rattle.netflux_core.specs.Machine.{ServeState, Step, serve_begins}
use Rattle.netflux_core.specs.Words.{IsStoreError}
use Rattle.world_hub.specs.State.{HubState, identities_at}

-- A step by an event, at the next moment: it is the serve machine's, and the volume had the calls of it.
pub record Steps (logs : ChannelLogs) (before : HubState) (event : Event) (outs : List Out) (after : HubState) : Type 0 where
  pub next : ServeState
  pub step : Step logs (identities_at before.stream) before.server (before.moment + 1) event outs next
  pub volume : Memory
  pub follows : Follows before.volume volume
  -- it had all the memory that it wanted
  pub fed : volume.starved ≡ before.volume.starved
  pub files : next.disk ≡ disk_of volume
  -- a call that failed is told
  pub failed : IsStoreError outs ⊎ (volume.faults ≡ before.volume.faults)
  pub state : after ≡ record { server = next; stream = before.stream; moment = before.moment + 1; volume = volume }

-- A new hub and keeper go on over what the stop left, or over the volume as it reads. Nobody is connected, no stop is set, and the hub has
-- the next stream.
pub record Reopens (before after : HubState) : Type 0 where
  pub volume : Memory
  pub new : volume ≡ fresh volume.first []
  pub files : (name : List ℕ) → file_at (disk_of volume) name ≡ at_rest (left_by before.volume.stop (file_at (disk_of before.volume) name))
  pub state : after ≡ record { server = serve_begins (disk_of volume); stream = before.stream + 1; moment = before.moment; volume = volume }
