-- What a crash leaves where a run ends or stops.
use Rattle.std.proofs.Common.{◌≡◌, ◌∙◌, ◌⊎◌, inl, inr, ℕ, ◌+◌, ◌-◌, ◌^◌, ◌≤◌, min, Bool, true, false, List, [], ◌∷◌, ◌++◌, Result, Ok, Err, refl, sym, ap, subst, bytes_eq, if◌then◌else◌}
use Rattle.std.proofs.lemmas.Slice.Eq.{bytes_eq-Decides}
use Rattle.disk_volume.specs.Disk.{Disk, File, file_at, reads, at_rest, AtRest, MayLeave}
use Rattle.disk_volume.specs.Moments.{moment as moment_of, EachNow, Grew}
use Rattle.disk_volume.specs.Lemmas.Images.{rest_leaves}
use Rattle.disk_volume.specs.Lemmas.Others.{syncs_grew}
use Rattle.disk_volume.specs.Lemmas.Since.{elsewhere, since_now}
use Rattle.hub_server.specs.Serving.{Serving}
use Rattle.keeper_channel.specs.Chan.{IsWithin}
use Rattle.keeper_channel.specs.declared.refused.KeeperRefused.{KeeperRefused}
use Rattle.keeper_state.specs.State.{State, unseen, live, again, Has, lists, damages, Stores, AnswersByReading}
use Rattle.keeper_entry.specs.Entry.{payload_of}
use Rattle.log_format.specs.declared.damage.Damage.{Damage}
use Rattle.netflux_core.specs.Channels.{Channels, Changes, loaded_after}
use Rattle.netflux_core.specs.Crashes.{ChannelLogs, HoldsNow, HoldsAll, LeavesHeld, LeavesAsked, LeavesStored}
use Rattle.netflux_core.specs.Histories.{channel_of}
use Rattle.netflux_core.specs.Machine.{StoredEntry, ServeState, BreaksBy, Breaks}
use Rattle.netflux_core.specs.Runs.{IsOwned}
use Rattle.netflux_core.specs.Stored.{AreHeld, HoldsAllStored, stored_in}
use Rattle.netflux_rooms.specs.Machine.{Answer, made, stores, asks, Steps}
use Rattle.netflux_rooms.specs.Rooms.{Identities, id_of}
use Rattle.netflux_rooms.proofs.CallerLemmas.{steps_answer, steps_then}
use Rattle.pad_text.specs.Digits.{IsDigits}
use Rattle.serve_loop.specs.declared.event.Event.{Event}
use Rattle.pad_serve.specs.Ends.{Ends, IsAllStored, LeftBy, BreaksOff}
use Rattle.pad_serve.specs.Leaves.{Stays, Leaves}
use Rattle.pad_serve.specs.Logs.{AreOfFiles}
use Rattle.pad_serve.proofs.Stored.{stored_has, asked_has, all_held}
use Rattle.pad_serve.proofs.Untouched.{AreUntouched, AreUnloaded, found_on, spared_at, untouched_after, unloaded_after}
use Rattle.pad_serve.proofs.Reaching.{stored_was, asked_was, stored_stays, asked_stays}

-- a file that is as it was, with nothing pending, stays
pub stays_by : (entry now : Disk) (file : List ℕ) → AtRest entry file → file_at now file ≡ file_at entry file → Stays entry now file
stays_by entry now file rests same image is =
    rest_leaves (reads entry file) (image file) (subst (λ (f : File). MayLeave f (image file)) (same ∙ rests) (is file))

-- files of no channel stay
pub others_stay : (logs : ChannelLogs) (entry now : Disk) → ((file : List ℕ) → AtRest entry file) → Grew (IsOwned logs.owns) entry now → (file : List ℕ) → (IsOwned logs.owns file → ⊥) → Stays entry now file
others_stay logs entry now rests grew file other = stays_by entry now file (rests file) (elsewhere now file grew other)

module _ (logs : ChannelLogs) (good : AreOfFiles logs) (entry : Disk) (rests : (file : List ℕ) → AtRest entry file) where
  -- what is held by the files at entry is held by those of a disk on which they are untouched
  has_on : (channel : List ℕ) (state : State) (disk : Disk) → (state ≡ unseen → (file : List ℕ) → logs.owns channel file → reads disk file ≡ reads entry file)
      → (held suspense : List (List ℕ)) → Has (logs.finds channel (reads entry)) state held suspense → Has (logs.finds channel (reads disk)) state held suspense
  has_on channel unseen disk same held suspense has = good.by_files channel (reads entry) (reads disk) (lists held suspense) (same refl) has
  has_on channel (live list doubtful) disk same held suspense has = has
  has_on channel (again list doubtful) disk same held suspense has = has

  pub leaves_by : (channels : Channels) (stored : List StoredEntry) (now : Disk) → AreUntouched logs entry channels now → AreUnloaded logs entry channels → Grew (IsOwned logs.owns) entry now → AreHeld channels stored
      → ((channel : List ℕ) → IsDigits 32 channel → (held suspense : List (List ℕ)) → Has (logs.finds channel (reads entry)) (channels.at channel) held suspense → EachNow now (λ image. IsWithin (logs.lists channel image) held suspense))
      → Leaves logs entry channels stored now
  leaves_by channels stored now untouched unloaded grew acknowledged held = record {
    held = held;
    acknowledged = acknowledged;
    damaged = λ channel damage digits found file owned. stays_by entry now file (rests file) (untouched channel digits (unloaded channel damage digits found) file owned);
    others = others_stay logs entry now rests grew;
  }

  -- where a run ends
  pub ends_by : (serving : Serving) (now : Disk) (faults : ℕ) → serving.state.disk ≡ now → HoldsAll logs serving.state.channels now → min (serving.first + serving.state.failures) (2 ^ 64 - 1) ≤ faults
      → AreUntouched logs entry serving.state.channels serving.state.disk → AreUnloaded logs entry serving.state.channels → Grew (IsOwned logs.owns) entry now → AreHeld serving.state.channels serving.state.stored
      → (serving.state.failures ≡ 0 → (channel : List ℕ) → IsDigits 32 channel → IsAllStored logs entry now serving.state channel)
      → Ends logs entry now faults serving
  ends_by serving now faults same all failures untouched unloaded grew acknowledged all_stored =
      let here = subst (λ (d : Disk). AreUntouched logs entry serving.state.channels d) same untouched in
      record {
        disk_is = same;
        failures = failures;
        leaves = leaves_by serving.state.channels serving.state.stored now here unloaded grew acknowledged
            (λ channel digits held suspense has. all channel digits held suspense
            (has_on channel (serving.state.channels.at channel) now (λ none. found_on logs good entry rests serving.state.channels now channel digits here none) held suspense has));
        all_stored = all_stored;
      }

  -- the files read as the list at entry and what was stored
  pub all_stored_by : (state : ServeState) (now : Disk) → state.disk ≡ now → (channel : List ℕ) → IsDigits 32 channel → HoldsAllStored logs entry channel state
      → ((held suspense : List (List ℕ)) → state.channels.at channel ≡ live held suspense → logs.lists channel (reads now) held) → IsAllStored logs entry now state channel
  all_stored_by state now same channel digits (inl (none, nothing, spares)) reading =
      inl (none, nothing, λ file owned. ap (λ (d : Disk). reads d file) (sym same) ∙ ap (λ (f : File). f.now) (spared_at logs good entry rests channel digits state.disk spares file owned))
  all_stored_by state now same channel digits (inr (disk, list, doubtful, suspense, spares, found, is)) reading =
      inr (
        list,
        doubtful,
        good.by_files channel (reads disk) (reads entry) (lists list doubtful) (λ file owned. sym (ap (λ (f : File). f.now) (spared_at logs good entry rests channel digits disk spares file owned))) found,
        reading (list ++ stored_in channel state.stored) suspense is,
      )

  -- all channels with another state of one
  abbrev put : (channel : List ℕ) → State → Channels → Channels
  put channel now before = record { at = λ other. if bytes_eq channel other then now else before.at other; loaded = loaded_after before.loaded (before.at channel) now }

  put_changes : (channel : List ℕ) (now : State) (before : Channels) → Changes before channel now (put channel now before)
  put_changes channel now before = record {
    this = ap (λ (b : Bool). if b then now else before.at channel) ((bytes_eq-Decides channel channel).1 refl);
    others = λ other apart. ap (λ (b : Bool). if b then now else before.at other) apart;
    loaded = refl;
  }

  -- what is held of each channel after a request to one for which memory ran out
  held_after : (before : Channels) (mine : List ℕ) (state : State) (old now : Disk) → AreUntouched logs entry before old → (state ≡ unseen → before.at mine ≡ unseen)
      → HoldsNow logs mine (reads old) state now
      → ((other : List ℕ) → IsDigits 32 other → bytes_eq mine other ≡ false → LeavesHeld logs other (before.at other) old now)
      → (channel : List ℕ) → IsDigits 32 channel → (held suspense : List (List ℕ)) → Has (logs.finds channel (reads entry)) ((put mine state before).at channel) held suspense
      → EachNow now (λ image. IsWithin (logs.lists channel image) held suspense)
  held_after before mine state old now untouched was here there channel digits held suspense = by (bytes_eq mine channel) refl
    where
      by : (b : Bool) → bytes_eq mine channel ≡ b → Has (logs.finds channel (reads entry)) (if b then state else before.at channel) held suspense
          → EachNow now (λ image. IsWithin (logs.lists channel image) held suspense)
      by true e has =
          let same = (bytes_eq-Decides mine channel).0 e in
          subst (λ (c : List ℕ). EachNow now (λ image. IsWithin (logs.lists c image) held suspense)) same
          (here held suspense (has_on mine state old (λ none. found_on logs good entry rests before old mine (subst (λ (c : List ℕ). IsDigits 32 c) (sym same) digits) untouched (was none)) held suspense
          (subst (λ (c : List ℕ). Has (logs.finds c (reads entry)) state held suspense) (sym same) has)))
      by false e has = λ image is.
          there channel digits e held suspense (has_on channel (before.at channel) old (λ none. found_on logs good entry rests before old channel digits untouched none) held suspense has) image (since_now (moment_of old) now image is)

  -- a step came to the keeper, and memory ran out
  broke_by : (identities : Identities) (state : ServeState) (moment : ℕ) (now : Disk) (answer : Answer) → BreaksBy logs identities state moment now answer
      → AreUntouched logs entry state.channels state.disk → AreUnloaded logs entry state.channels → Grew (IsOwned logs.owns) entry now → AreHeld state.channels state.stored
      → (channels : Channels) × LeftBy logs identities state moment channels answer × Leaves logs entry channels state.stored now
  broke_by identities state moment now (made what) got untouched unloaded grew held = absurd got
  broke_by identities state moment now (stores number seq channel content) (result, becomes, stored, leaves) untouched unloaded grew held =
      let added = payload_of moment (id_of identities state.rooms number) content ∷ [] in
      let after = put channel becomes state.channels in
      let changes = put_changes channel becomes state.channels in
      let was = stored_was (logs.finds channel (reads state.disk)) state.channels.loaded (state.channels.at channel) becomes added result stored in (
        after,
        (result, becomes, stored, changes),
        leaves_by after state.stored now
            (untouched_after logs good entry rests state.channels after state.disk now channel becomes leaves.digits changes leaves.acts leaves.unloaded was untouched)
            (unloaded_after logs good entry rests state.channels after state.disk now channel becomes leaves.digits changes leaves.acts leaves.unloaded was
            (λ damage none found. stored_stays (logs.finds channel (reads state.disk)) state.channels.loaded (state.channels.at channel) becomes none
            (λ list doubtful listed. good.either channel (reads state.disk) damage list doubtful found listed) added result stored) untouched unloaded)
            grew
            (all_held state.channels after channel becomes changes (λ index payload. stored_has (logs.finds channel (reads state.disk)) state.channels.loaded (state.channels.at channel) becomes index payload added result stored) state.stored held)
            (held_after state.channels channel becomes state.disk now untouched was leaves.after leaves.others),
      )
  broke_by identities state moment now (asks number seq ask) (result, becomes, answered, leaves) untouched unloaded grew held =
      let channel = channel_of ask in
      let after = put channel becomes state.channels in
      let changes = put_changes channel becomes state.channels in
      let was = asked_was (logs.finds channel (reads state.disk)) state.channels.loaded (state.channels.at channel) becomes _ result answered in (
        after,
        (result, becomes, answered, changes),
        leaves_by after state.stored now
            (untouched_after logs good entry rests state.channels after state.disk now channel becomes leaves.digits changes (syncs_grew now leaves.syncs) (λ none. leaves.syncs) was untouched)
            (unloaded_after logs good entry rests state.channels after state.disk now channel becomes leaves.digits changes (syncs_grew now leaves.syncs) (λ none. leaves.syncs) was
            (λ damage none found. asked_stays (logs.finds channel (reads state.disk)) state.channels.loaded (state.channels.at channel) becomes none
            (λ list doubtful listed. good.either channel (reads state.disk) damage list doubtful found listed) _ result answered) untouched unloaded)
            grew
            (all_held state.channels after channel becomes changes (λ index payload. asked_has (logs.finds channel (reads state.disk)) state.channels.loaded (state.channels.at channel) becomes index payload _ result answered) state.stored held)
            (held_after state.channels channel becomes state.disk now untouched was leaves.after (λ other digits apart. leaves.each other digits)),
      )

  -- memory ran out in a step
  pub breaks_by : (serving : Serving) (moment : ℕ) (event : Event) (now : Disk) → Breaks logs serving.identities serving.state moment event now
      → AreUntouched logs entry serving.state.channels serving.state.disk → AreUnloaded logs entry serving.state.channels → Grew (IsOwned logs.owns) entry now → AreHeld serving.state.channels serving.state.stored
      → BreaksOff logs entry now serving moment event
  breaks_by serving moment event now (inl nothing) untouched unloaded grew held =
      let here = subst (λ (d : Disk). AreUntouched logs entry serving.state.channels d) (sym nothing.0) untouched in (
        serving.state.channels,
        inl refl,
        leaves_by serving.state.channels serving.state.stored now here unloaded grew held
            (λ channel digits list doubtful has. nothing.1 channel digits list doubtful
            (has_on channel (serving.state.channels.at channel) now (λ none. found_on logs good entry rests serving.state.channels now channel digits here none) list doubtful has)),
      )
  breaks_by serving moment event now (inr came) untouched unloaded grew held =
      let answer = steps_answer serving.identities serving.state.rooms event (BreaksBy logs serving.identities serving.state moment now) came in
      let broke = broke_by serving.identities serving.state moment now answer.0 answer.1 untouched unloaded grew held in (
        broke.0,
        inr (steps_then serving.identities serving.state.rooms event (λ other. other ≡ answer.0) (LeftBy logs serving.identities serving.state moment broke.0)
            (λ other is. subst (λ (a : Answer). LeftBy logs serving.identities serving.state moment broke.0 a) (sym is) broke.1) answer.3),
        broke.2,
      )
