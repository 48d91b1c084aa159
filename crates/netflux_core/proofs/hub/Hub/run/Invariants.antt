use Rattle.std.proofs.Common.{◌≡◌, ◌≤◌, ◌⊎◌, ℕ}
use Rattle.disk_volume.specs.Moments.{Grew}
use Rattle.netflux_rooms.specs.Rooms.{Identities}
use Rattle.netflux_rooms.specs.Whole.{IsWhole}
use Rattle.netflux_core.specs.Channels.{Channels}
use Rattle.netflux_core.specs.Machine.{ServeState, StandsFor}
use Rattle.netflux_core.specs.Runs.{Runs, IsOwned}
use Rattle.netflux_core.specs.Words.{HasStoreError}
use Rattle.netflux_core.proofs.hub.Hub.run.Given as goal

-- the outputs so far are those of a run over the events taken so far
abbrev pub invariant-loop-moment : goal.invariant-loop-moment
invariant-loop-moment g l = let V = g.V.Volume in let K = g.K.Keep in record {
  so_far : V.tells → (identities : Identities) (first : ℕ) (state : ServeState)
      → StandsFor (K.keeps l.fn.keeper) identities l.fn.self.rooms (V.disk l.fn.volume) first (V.faults l.fn.volume) state
      → (next : ServeState) × Runs K.logs identities state l.yielded l.outputs.items next
      × StandsFor (K.keeps l.keeper) identities l.self.rooms (V.disk l.volume) first (V.faults l.volume) next;
  files : V.tells → Grew (IsOwned K.logs.owns) (V.disk l.fn.volume) (V.disk l.volume);
  whole : IsWhole l.self.rooms;
  sound : K.is_sound l.keeper;
  tie : V.tells → (channels : Channels) × K.keeps l.keeper channels (V.disk l.volume);
  kept : HasStoreError l.outputs.items ⊎ (V.faults l.volume ≡ V.faults l.fn.volume);
  follows : V.follows l.fn.volume l.volume;
  later : V.faults l.fn.volume ≤ V.faults l.volume;
}
