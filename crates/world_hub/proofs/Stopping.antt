-- A stop is set, and a hub is reopened.
use Rattle.std.proofs.Common.{◌≡◌, ◌∙◌, ℕ, ◌+◌, ◌-◌, Bool, true, List, [], refl, sym, ap, subst}
use Rattle.disk_volume.specs.Disk.{Disk, AtRest, file_at, at_rest}
use Rattle.disk_volume.specs.Memory.{Memory, fresh, disk_of}
use Rattle.disk_volume.specs.Stop.{stop_set, left_by}
use Rattle.disk_volume.specs.declared.pick.Pick.{Pick}
use Rattle.disk_volume.specs.declared.stop.Stop.{Stop}
use Rattle.disk_volume.specs.declared.stop.Stop.TheVariants.{Unset, Set, Past}
use Rattle.netflux_rooms.specs.Rooms.{no_rooms}
use Rattle.netflux_rooms.specs.Tables.{IsRooms}
use Rattle.netflux_rooms.specs.declared.room_hub.RoomHub.{RoomHub}
use Rattle.netflux_core.specs.Channels.{Channels, no_channels}
use Rattle.netflux_core.specs.Machine.{StandsFor, serve_begins}
use Rattle.world_hub.specs.State.{HubState, StandsAs, IsReady, identities_at, was_set, with_stop}
use Rattle.world_hub.specs.Steps.{Reopens}
use Rattle.world_hub.proofs.Beginning.{begins}

was_set_now : (stop : Stop) (call : ℕ) (pick : Pick) → was_set (stop_set stop call pick) ≡ true
was_set_now Unset call pick = refl
was_set_now (Set number old) call pick = refl
was_set_now (Past old) call pick = refl

module _ (keeps : Channels → Disk → Type 0) (rooms : RoomHub) (volume now : Memory) where
  pub stop_is_set : (stream moment last call : ℕ) (pick : Pick) (before : HubState) → StandsAs keeps rooms volume stream moment before
      → last ≡ volume.calls + call - 1 → now ≡ record volume { stop = stop_set volume.stop last pick } → StandsAs keeps rooms now stream moment (with_stop before call pick)
  stop_is_set stream moment last call pick before stands is same =
      let other = λ (v : Memory). record v { stop = stop_set v.stop (v.calls + call - 1) pick } in record {
        volume_is = ap other stands.volume_is ∙ ap (λ (l : ℕ). record volume { stop = stop_set volume.stop l pick }) (sym is) ∙ sym same;
        stream_is = stands.stream_is;
        moment_is = stands.moment_is;
        first = stands.first;
        stands = subst (λ (v : Memory). StandsFor keeps (identities_at stream) rooms (disk_of v) stands.first v.faults before.server) (sym same) stands.stands;
      }

  pub set_ready : (is_sound : Type 0) (set : Bool) (last : ℕ) (pick : Pick) → IsReady is_sound keeps rooms volume set
      → now ≡ record volume { stop = stop_set volume.stop last pick } → IsReady is_sound keeps rooms now true
  set_ready is_sound set last pick ready same = record {
    whole = ready.whole;
    sound = ready.sound;
    tie = subst (λ (v : Memory). (channels : Channels) × keeps channels (disk_of v)) (sym same) ready.tie;
    set = ap (λ (v : Memory). was_set v.stop) same ∙ was_set_now volume.stop last pick;
  }

pub reopened : (keeps keeps_now : Channels → Disk → Type 0) (rooms rooms_now : RoomHub) (volume image : Memory) (stream next moment : ℕ) (before : HubState)
    → StandsAs keeps rooms volume stream moment before → IsRooms (identities_at next) rooms_now no_rooms → next ≡ stream + 1 → image ≡ fresh image.first []
    → ((name : List ℕ) → file_at (disk_of image) name ≡ at_rest (left_by volume.stop (file_at (disk_of volume) name)))
    → ((disk : Disk) → ((file : List ℕ) → AtRest disk file) → keeps_now no_channels disk)
    → (after : HubState) × Reopens before after × StandsAs keeps_now rooms_now image next moment after
reopened keeps keeps_now rooms rooms_now volume image stream next moment before stands is following new files kept =
    let one_more : next ≡ before.stream + 1 = following ∙ ap (λ (s : ℕ). s + 1) (sym stands.stream_is) in (
      record { server = serve_begins (disk_of image); stream = before.stream + 1; moment = before.moment; volume = image },
      record {
        volume = image;
        new = new;
        files = λ name. subst (λ (v : Memory). file_at (disk_of image) name ≡ at_rest (left_by v.stop (file_at (disk_of v) name))) (sym stands.volume_is) (files name);
        state = refl;
      },
      subst (λ (s : ℕ). StandsAs keeps_now rooms_now image next moment (record { server = serve_begins (disk_of image); stream = s; moment = before.moment; volume = image })) one_more
          (subst (λ (m : ℕ). StandsAs keeps_now rooms_now image next moment (record { server = serve_begins (disk_of image); stream = next; moment = m; volume = image })) (sym stands.moment_is)
          (begins keeps_now rooms_now image next moment is new kept)),
    )
