-- A step in memory is one of the definition.
use Rattle.std.proofs.Common.{◌≡◌, ◌∙◌, ◌⊎◌, inl, inr, ℕ, ◌+◌, Bool, true, false, if◌then◌else◌, nat_le, nat_lt, ◌&&◌, List, refl, sym, ap, subst}
use Rattle.disk_volume.specs.Disk.{Disk}
use Rattle.disk_volume.specs.Memory.{Memory, Follows, disk_of}
use Rattle.disk_volume.specs.Stop.{stop_later}
use Rattle.disk_volume.specs.declared.pick.Pick.{Pick}
use Rattle.disk_volume.specs.declared.stop.Stop.{Stop}
use Rattle.disk_volume.specs.declared.stop.Stop.TheVariants.{Unset, Set, Past}
use Rattle.netflux_rooms.specs.Rooms.{Identities}
use Rattle.netflux_rooms.specs.declared.room_hub.RoomHub.{RoomHub}
use Rattle.netflux_core.specs.Channels.{Channels}
use Rattle.netflux_core.specs.Crashes.{ChannelLogs}
use Rattle.netflux_core.specs.Machine.{ServeState, Step, StandsFor}
use Rattle.netflux_core.specs.Words.{IsStoreError}
use Rattle.serve_loop.specs.declared.event.Event.{Event}
use Rattle.serve_loop.specs.declared.out.Out.{Out}
use Rattle.world_hub.specs.State.{HubState, StandsAs, identities_at, was_set}
use Rattle.world_hub.specs.Steps.{Steps}

-- a stop that was set was set
set_or_come : (come : Bool) (number : ℕ) (pick : Pick) → was_set (if come then Past pick else Set number pick) ≡ true
set_or_come true number pick = refl
set_or_come false number pick = refl

set_later : (calls later : ℕ) (stop : Stop) → was_set (stop_later calls stop later) ≡ was_set stop
set_later calls later Unset = refl
set_later calls later (Set number pick) = set_or_come (nat_le calls number && nat_lt number later) number pick
set_later calls later (Past pick) = refl

pub still_set : (before now : Memory) (set : Bool) → Follows before now → was_set before.stop ≡ set → was_set now.stop ≡ set
still_set before now set follows was = ap was_set follows.stop ∙ set_later before.calls now.calls before.stop ∙ was

told_as : (outs : List Out) (before was now : Memory) → was ≡ before → IsStoreError outs ⊎ (now.faults ≡ before.faults) → IsStoreError outs ⊎ (now.faults ≡ was.faults)
told_as outs before was now same (inl told) = inl told
told_as outs before was now same (inr kept) = inr (kept ∙ ap (λ (v : Memory). v.faults) (sym same))

pub stepped : (logs : ChannelLogs) (keeps keeps_now : Channels → Disk → Type 0) (rooms rooms_now : RoomHub) (volume volume_now : Memory) (stream moment next_moment : ℕ)
    (event : Event) (outs : List Out) (before : HubState) → StandsAs keeps rooms volume stream moment before
    → ((identities : Identities) (first : ℕ) (state : ServeState) → StandsFor keeps identities rooms (disk_of volume) first volume.faults state
    → (next : ServeState) × Step logs identities state next_moment event outs next × StandsFor keeps_now identities rooms_now (disk_of volume_now) first volume_now.faults next)
    → next_moment ≡ moment + 1 → Follows volume volume_now → volume_now.starved ≡ volume.starved → IsStoreError outs ⊎ (volume_now.faults ≡ volume.faults)
    → (after : HubState) × Steps logs before event outs after × StandsAs keeps_now rooms_now volume_now stream next_moment after
stepped logs keeps keeps_now rooms rooms_now volume volume_now stream moment next_moment event outs before stands steps is follows fed failed =
    let given = steps (identities_at stream) stands.first before.server stands.stands in
    let now : next_moment ≡ before.moment + 1 = is ∙ ap (λ (m : ℕ). m + 1) (sym stands.moment_is) in (
      record { server = given.0; stream = before.stream; moment = before.moment + 1; volume = volume_now },
      record {
        next = given.0;
        step = subst (λ (s : ℕ). Step logs (identities_at s) before.server (before.moment + 1) event outs given.0) (sym stands.stream_is)
            (subst (λ (m : ℕ). Step logs (identities_at stream) before.server m event outs given.0) now given.1);
        volume = volume_now;
        follows = subst (λ (v : Memory). Follows v volume_now) (sym stands.volume_is) follows;
        fed = fed ∙ ap (λ (v : Memory). v.starved) (sym stands.volume_is);
        files = given.2.disk_is;
        failed = told_as outs volume before.volume volume_now stands.volume_is failed;
        state = refl;
      },
      record { volume_is = refl; stream_is = stands.stream_is; moment_is = sym now; first = stands.first; stands = given.2 },
    )
