-- A hub that begins over a volume with nothing pending.
use Rattle.std.proofs.Common.{◌≡◌, ◌∙◌, ℕ, List, [], false, refl, sym, ap, subst, arith}
use Rattle.disk_volume.specs.Disk.{Disk, AtRest}
use Rattle.disk_volume.specs.Memory.{Memory, fresh, disk_of}
use Rattle.netflux_rooms.specs.Rooms.{no_rooms}
use Rattle.netflux_rooms.specs.Tables.{IsRooms}
use Rattle.netflux_rooms.specs.Whole.{IsWhole}
use Rattle.netflux_rooms.specs.declared.room_hub.RoomHub.{RoomHub}
use Rattle.netflux_core.specs.Channels.{Channels, no_channels}
use Rattle.netflux_core.specs.Machine.{serve_begins}
use Rattle.world_hub.specs.State.{StandsAs, IsReady, identities_at, was_set}

-- nothing is pending on a new volume
rests_new : (first : List (List ℕ × List ℕ)) (name : List ℕ) → AtRest (disk_of (fresh first [])) name
rests_new first name = refl

pub rests : (volume : Memory) → volume ≡ fresh volume.first [] → (name : List ℕ) → AtRest (disk_of volume) name
rests volume new name = subst (λ (v : Memory). AtRest (disk_of v) name) (sym new) (rests_new volume.first name)

-- one without files is such a volume
pub is_new : (volume : Memory) → volume ≡ fresh [] [] → volume ≡ fresh volume.first []
is_new volume same = same ∙ ap (λ (files : List (List ℕ × List ℕ)). fresh files []) (sym (ap (λ (v : Memory). v.first) same))

module _ (keeps : Channels → Disk → Type 0) (rooms : RoomHub) (volume : Memory) where
  pub begins : (stream moment : ℕ) → IsRooms (identities_at stream) rooms no_rooms → volume ≡ fresh volume.first []
      → ((disk : Disk) → ((file : List ℕ) → AtRest disk file) → keeps no_channels disk)
      → StandsAs keeps rooms volume stream moment (record { server = serve_begins (disk_of volume); stream = stream; moment = moment; volume = volume })
  begins stream moment is new kept = record {
    volume_is = refl;
    stream_is = refl;
    moment_is = refl;
    first = 0;
    stands = record {
      rooms = is;
      channels = kept (disk_of volume) (rests volume new);
      disk_is = refl;
      failures = omega arith;
      unfailing = λ none. ap (λ (v : Memory). v.faults) new;
    };
  }

  pub is_ready : (is_sound : Type 0) → IsWhole rooms → is_sound → volume ≡ fresh volume.first []
      → ((disk : Disk) → ((file : List ℕ) → AtRest disk file) → keeps no_channels disk) → IsReady is_sound keeps rooms volume false
  is_ready is_sound whole sound new kept = record {
    whole = whole;
    sound = sound;
    tie = (no_channels, kept (disk_of volume) (rests volume new));
    set = ap (λ (v : Memory). was_set v.stop) new;
  }
