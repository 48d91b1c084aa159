-- A port was served by a machine that began with nobody connected.
use Rattle.std.proofs.Common.{◌≡◌, inl, ℕ, ◌+◌, ◌-◌, ◌^◌, ◌≤◌, min, List, [], ◌∷◌, refl, sym, ap, subst, arith}
use Rattle.disk_volume.specs.Disk.{Disk, reads, AtRest}
use Rattle.disk_volume.specs.Moments.{Grew, still}
use Rattle.hub_server.specs.Serving.{Serving, Serves, StandsIn}
use Rattle.keeper_state.specs.State.{live}
use Rattle.netflux_core.specs.Channels.{Channels, no_channels}
use Rattle.netflux_core.specs.Crashes.{ChannelLogs, HoldsAll}
use Rattle.netflux_core.specs.Machine.{ServeState, serve_begins, StandsFor, Breaks}
use Rattle.netflux_core.specs.Runs.{Runs, begins, IsOwned}
use Rattle.netflux_core.specs.Stored.{AreHeld, HoldsAllStored}
use Rattle.netflux_rooms.specs.Identity.{identities_of}
use Rattle.netflux_rooms.specs.Rooms.{Identities, no_rooms}
use Rattle.netflux_rooms.specs.Tables.{IsRooms}
use Rattle.netflux_rooms.specs.declared.room_hub.RoomHub.{RoomHub}
use Rattle.pad_edge.specs.declared.port_event.PortEvent.{PortEvent}
use Rattle.pad_edge.specs.declared.sent.Sent.{Sent}
use Rattle.serve_loop.specs.Run.{IsServed}
use Rattle.serve_loop.specs.Stop.{IsStopped}
use Rattle.serve_loop.specs.declared.event.Event.{Event}
use Rattle.serve_loop.specs.declared.out.Out.{Out}
use Rattle.pad_text.specs.Digits.{IsDigits}
use Rattle.pad_serve.specs.Ends.{serving_begins, Ends, EndsWhole, BreaksOff, IsServedBy, IsStoppedBy}
use Rattle.pad_serve.specs.Logs.{AreOfFiles}
use Rattle.pad_serve.proofs.Leaving.{ends_by, all_stored_by, breaks_by}
use Rattle.pad_serve.proofs.Running.{served_then, served_stops, served_from, stopped_then, stopped_from, stopped_first}
use Rattle.pad_serve.proofs.Untouched.{Holds, kept}

module _ (logs : ChannelLogs) (good : AreOfFiles logs) (entry : Disk) (rests : (file : List ℕ) → AtRest entry file) (key : List ℕ) (faults : ℕ) where
  abbrev first : Serving
  first = serving_begins key faults entry

  pub first_holds : Holds logs good entry rests first first
  first_holds = record {
    events = [];
    outputs = [];
    runs = begins;
    same = refl;
    untouched = λ channel digits none file owned. refl;
    unloaded = λ channel damage digits found. refl;
  }

  pub first_stands : (keeps : Channels → Disk → Type 0) (hub : RoomHub) → IsRooms (identities_of key 0) hub no_rooms → keeps no_channels entry → min (faults + 0) (2 ^ 64 - 1) ≤ faults
      → StandsFor keeps (identities_of key 0) hub entry faults faults (serve_begins entry)
  first_stands keeps hub rooms kept few = record { rooms = rooms; channels = kept; disk_is = refl; failures = few; unfailing = λ none. refl }

  -- nothing was done
  pub ends_first : (now : Disk) (faults_now : ℕ) → now ≡ entry → faults ≤ faults_now → HoldsAll logs no_channels entry → Ends logs entry now faults_now first
  ends_first now faults_now same few all = subst (λ (d : Disk). Ends logs entry d faults_now first) (sym same)
      (ends_by logs good entry rests first entry faults_now refl all (omega (arith, few)) (λ channel digits none file owned. refl) (λ channel damage digits found. refl) still tt (λ none channel digits. inl (refl, refl, λ file owned. refl)))

  pub stopped_at_once : (now : Disk) (faults_now : ℕ) → now ≡ entry → faults ≤ faults_now → HoldsAll logs no_channels entry → (turns : ℕ) (port_tells clock_tells : Type 0) (coming : List ℕ)
      (events_before events_now : List PortEvent) (gone_before gone_now : List Sent) (failed_before failed_now : List ℕ)
      → (port_tells → events_now ≡ events_before) → (port_tells → gone_now ≡ gone_before) → (port_tells → failed_now ≡ failed_before)
      → IsStoppedBy logs key entry now faults faults_now turns port_tells clock_tells coming events_before events_now gone_before gone_now failed_before failed_now
  stopped_at_once now faults_now same few all turns port_tells clock_tells coming events_before events_now gone_before gone_now failed_before failed_now events_same gone_same failed_same =
      stopped_first (λ before moment event outs after. Serves logs before moment event outs after) (λ serving. Ends logs entry now faults_now serving) (λ serving moment event. BreaksOff logs entry now serving moment event) first
      turns port_tells clock_tells coming events_before events_now gone_before gone_now failed_before failed_now events_same gone_same failed_same (ends_first now faults_now same few all)

  -- what was stored is held, and without a failure each channel has all that was
  module _ (held_on : (identities : Identities) (from next : ServeState) (events : List (ℕ × Event)) (outputs : List (List Out)) → Runs logs identities from events outputs next → AreHeld from.channels from.stored → AreHeld next.channels next.stored)
      (holds_all : (identities : Identities) (disk : Disk) (next : ServeState) (events : List (ℕ × Event)) (outputs : List (List Out)) → Runs logs identities (serve_begins disk) events outputs next → next.failures ≡ 0
      → (channel : List ℕ) → HoldsAllStored logs disk channel next) (now : Disk) (grew : Grew (IsOwned logs.owns) entry now) where
    -- the files of a loaded channel read as the list held
    abbrev Reads : (keeps : Channels → Disk → Type 0) → Type 0
    Reads keeps = (channels : Channels) → keeps channels now → (channel : List ℕ) → IsDigits 32 channel → (list suspense : List (List ℕ)) → channels.at channel ≡ live list suspense → logs.lists channel (reads now) list

    held : (serving : Serving) → Holds logs good entry rests first serving → AreHeld serving.state.channels serving.state.stored
    held serving holds = held_on (identities_of key 0) (serve_begins entry) serving.state holds.events holds.outputs holds.runs tt

    pub ends_at : (keeps : Channels → Disk → Type 0) (hub : RoomHub) (faults_now : ℕ) (all : (channels : Channels) → keeps channels now → HoldsAll logs channels now) (reading : Reads keeps) (serving : Serving)
        → Holds logs good entry rests first serving → StandsFor keeps serving.identities hub now serving.first faults_now serving.state → Ends logs entry now faults_now serving
    ends_at keeps hub faults_now all reading serving holds stands = ends_by logs good entry rests serving now faults_now stands.disk_is (all serving.state.channels stands.channels) stands.failures
        holds.untouched holds.unloaded grew (held serving holds)
        (λ none channel digits. all_stored_by logs good entry rests serving.state now stands.disk_is channel digits (holds_all (identities_of key 0) entry serving.state holds.events holds.outputs holds.runs none channel)
        (reading serving.state.channels stands.channels channel digits))

    pub breaks_at : (serving : Serving) (moment : ℕ) (event : Event) → Holds logs good entry rests first serving → Breaks logs serving.identities serving.state moment event now → BreaksOff logs entry now serving moment event
    breaks_at serving moment event holds broken = breaks_by logs good entry rests serving moment event now broken holds.untouched holds.unloaded grew (held serving holds)

    module _ (sound : Type 0) (keeps : Channels → Disk → Type 0) (hub : RoomHub) (faults_now : ℕ) (all : sound → (channels : Channels) → keeps channels now → HoldsAll logs channels now) (reading : sound → Reads keeps)
        (events_before events_now : List PortEvent) (gone_before gone_now : List Sent) (failed_before failed_now : List ℕ) where
      step_kept : (before : Serving) (moment : ℕ) (event : Event) (outs : List Out) (after : Serving) → Serves logs before moment event outs after → Holds logs good entry rests first before → Holds logs good entry rests first after
      step_kept before moment event outs after serves holds = kept logs good entry rests first before moment event outs after serves holds

      ends_then : (serving : Serving) → Holds logs good entry rests first serving → StandsIn sound keeps hub now faults_now serving → Ends logs entry now faults_now serving
      ends_then serving holds stands = ends_at keeps hub faults_now (all stands.0) (reading stands.0) serving holds stands.1

      -- what the loop says of its machine is said of the serve machine
      pub served_by : (turns made : ℕ) (port_tells clock_tells : Type 0) (coming : List ℕ)
          → IsServed (λ before moment event outs after. Serves logs before moment event outs after) (λ serving. StandsIn sound keeps hub now faults_now serving) first turns made port_tells clock_tells coming
          events_before events_now gone_before gone_now failed_before failed_now
          → IsServedBy logs key entry now faults faults_now turns made port_tells clock_tells coming events_before events_now gone_before gone_now failed_before failed_now
      served_by turns made port_tells clock_tells coming served = served_then (λ before moment event outs after. Serves logs before moment event outs after) (λ serving. Holds logs good entry rests first serving) step_kept
          (λ serving. StandsIn sound keeps hub now faults_now serving) (λ serving. EndsWhole logs entry now faults_now serving) (λ serving moment event. Breaks logs serving.identities serving.state moment event now)
          (λ serving moment event. BreaksOff logs entry now serving moment event) (λ serving holds stands. (ends_then serving holds stands, stands.1.unfailing)) breaks_at
          first turns made port_tells clock_tells coming events_before events_now gone_before gone_now failed_before failed_now served first_holds

      pub stopped_by : (turns : ℕ) (port_tells clock_tells : Type 0) (coming : List ℕ)
          → IsStopped (λ before moment event outs after. Serves logs before moment event outs after) (λ serving. StandsIn sound keeps hub now faults_now serving)
          (λ serving moment event. Breaks logs serving.identities serving.state moment event now) first turns port_tells clock_tells coming events_before events_now gone_before gone_now failed_before failed_now
          → IsStoppedBy logs key entry now faults faults_now turns port_tells clock_tells coming events_before events_now gone_before gone_now failed_before failed_now
      stopped_by turns port_tells clock_tells coming stopped = stopped_then (λ before moment event outs after. Serves logs before moment event outs after) (λ serving. Holds logs good entry rests first serving) step_kept
          (λ serving. StandsIn sound keeps hub now faults_now serving) (λ serving. Ends logs entry now faults_now serving) (λ serving moment event. Breaks logs serving.identities serving.state moment event now)
          (λ serving moment event. BreaksOff logs entry now serving moment event) ends_then breaks_at
          first turns port_tells clock_tells coming events_before events_now gone_before gone_now failed_before failed_now stopped first_holds

-- the same of the serve machine
module _ (logs : ChannelLogs) (key : List ℕ) (entry now : Disk) (faults faults_now turns : ℕ) (port_tells clock_tells : Type 0) (coming : List ℕ) (events_before events_now : List PortEvent) (gone_before gone_now : List Sent) (failed_before failed_now : List ℕ) where
  -- a run that was done stopped behind its last event
  pub done_stops : (made : ℕ) → IsServedBy logs key entry now faults faults_now turns made port_tells clock_tells coming events_before events_now gone_before gone_now failed_before failed_now
      → IsStoppedBy logs key entry now faults faults_now turns port_tells clock_tells coming events_before events_now gone_before gone_now failed_before failed_now
  done_stops made served = served_stops (λ before moment event outs after. Serves logs before moment event outs after) (λ serving. EndsWhole logs entry now faults_now serving) (λ serving. Ends logs entry now faults_now serving)
      (λ serving ends. ends.0) (λ serving moment event. BreaksOff logs entry now serving moment event) (serving_begins key faults entry) turns made port_tells clock_tells coming events_before events_now gone_before gone_now failed_before failed_now served

  module _ (events_mid : List PortEvent) (gone_mid : List Sent) (failed_mid : List ℕ) (events_same : port_tells → events_mid ≡ events_before) (gone_same : port_tells → gone_mid ≡ gone_before) (failed_same : port_tells → failed_mid ≡ failed_before) where
    pub done_from : (made : ℕ) → IsServedBy logs key entry now faults faults_now turns made port_tells clock_tells coming events_mid events_now gone_mid gone_now failed_mid failed_now
        → IsServedBy logs key entry now faults faults_now turns made port_tells clock_tells coming events_before events_now gone_before gone_now failed_before failed_now
    done_from made served = served_from (λ before moment event outs after. Serves logs before moment event outs after) (λ serving. EndsWhole logs entry now faults_now serving) (serving_begins key faults entry)
        turns made port_tells clock_tells coming events_before events_mid events_now gone_before gone_mid gone_now failed_before failed_mid failed_now events_same gone_same failed_same served

    pub broken_from : IsStoppedBy logs key entry now faults faults_now turns port_tells clock_tells coming events_mid events_now gone_mid gone_now failed_mid failed_now
        → IsStoppedBy logs key entry now faults faults_now turns port_tells clock_tells coming events_before events_now gone_before gone_now failed_before failed_now
    broken_from stopped = stopped_from (λ before moment event outs after. Serves logs before moment event outs after) (λ serving. Ends logs entry now faults_now serving) (λ serving moment event. BreaksOff logs entry now serving moment event) (serving_begins key faults entry)
        turns port_tells clock_tells coming events_before events_mid events_now gone_before gone_mid gone_now failed_before failed_mid failed_now events_same gone_same failed_same stopped
