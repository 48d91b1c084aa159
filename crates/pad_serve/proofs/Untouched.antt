-- Files of channels that are not loaded, step by step.
use Rattle.std.proofs.Common.{◌≡◌, ◌∙◌, ◌⊎◌, inl, inr, true≢false, ℕ, Bool, true, false, List, [], ◌∷◌, ◌++◌, Result, Ok, Err, refl, sym, ap, subst, bytes_eq}
use Rattle.std.proofs.lemmas.Slice.Eq.{bytes_eq-Decides}
use Rattle.disk_volume.specs.Disk.{Disk, File, file_at, reads, at_rest, AtRest}
use Rattle.disk_volume.specs.Moments.{Grew, OnlySyncs}
use Rattle.disk_volume.specs.Lemmas.Others.{syncs_rest, syncs_grew}
use Rattle.disk_volume.specs.Lemmas.Since.{elsewhere}
use Rattle.hub_server.specs.Serving.{Serving, Serves}
use Rattle.keeper_channel.specs.declared.refused.KeeperRefused.{KeeperRefused}
use Rattle.keeper_entry.specs.Entry.{payload_of}
use Rattle.keeper_state.specs.State.{State, unseen, lists, damages}
use Rattle.log_format.specs.declared.damage.Damage.{Damage}
use Rattle.netflux_core.specs.Channels.{Channels, Changes}
use Rattle.netflux_core.specs.Crashes.{ChannelLogs}
use Rattle.netflux_core.specs.Histories.{channel_of}
use Rattle.netflux_core.specs.Machine.{ServeState, Becomes, Step}
use Rattle.netflux_core.specs.Runs.{Runs, goes_on}
use Rattle.netflux_rooms.specs.Machine.{Answer, made, stores, asks}
use Rattle.netflux_rooms.specs.Rooms.{Identities, id_of}
use Rattle.netflux_rooms.proofs.CallerLemmas.{steps_answer}
use Rattle.serve_loop.specs.declared.event.Event.{Event}
use Rattle.serve_loop.specs.declared.out.Out.{Out}
use Rattle.pad_text.specs.Digits.{IsDigits}
use Rattle.netflux_core.specs.Stored.{Spares, spared, by_another, by_syncs}
use Rattle.pad_serve.specs.Logs.{AreOfFiles}
use Rattle.pad_serve.proofs.Reaching.{stored_was, asked_was, stored_stays, asked_stays}

-- the files of a channel that is not loaded are what they were
abbrev pub AreUntouched : (logs : ChannelLogs) (entry : Disk) (channels : Channels) (now : Disk) → Type 0
AreUntouched logs entry channels now = (channel : List ℕ) → IsDigits 32 channel → channels.at channel ≡ unseen → (file : List ℕ) → logs.owns channel file → file_at now file ≡ file_at entry file

-- a channel that was damaged is not loaded
abbrev pub AreUnloaded : (logs : ChannelLogs) (entry : Disk) (channels : Channels) → Type 0
AreUnloaded logs entry channels = (channel : List ℕ) (damage : Damage) → IsDigits 32 channel → logs.finds channel (reads entry) (damages damage) → channels.at channel ≡ unseen

module _ (logs : ChannelLogs) (good : AreOfFiles logs) (entry : Disk) (rests : (file : List ℕ) → AtRest entry file) where
  -- what its files hold is what they held
  pub found_on : (channels : Channels) (disk : Disk) (channel : List ℕ) → IsDigits 32 channel → AreUntouched logs entry channels disk → channels.at channel ≡ unseen → (file : List ℕ) → logs.owns channel file → reads disk file ≡ reads entry file
  found_on channels disk channel digits untouched none file owned = ap (λ (f : File). f.now) (untouched channel digits none file owned)

  still_rests : (disk : Disk) (file : List ℕ) → file_at disk file ≡ file_at entry file → AtRest disk file
  still_rests disk file same = subst (λ (f : File). f ≡ at_rest f.now) (sym same) (rests file)

  -- the files of a channel, when only those of others were acted on
  pub spared_at : (channel : List ℕ) → IsDigits 32 channel → (disk : Disk) → Spares logs channel entry disk → (file : List ℕ) → logs.owns channel file → file_at disk file ≡ file_at entry file
  spared_at channel digits disk spared file owned = refl
  spared_at channel digits disk (by_another {mid = mid} other theirs apart grew spares) file owned =
      elsewhere disk file grew (λ acted. true≢false (sym ((bytes_eq-Decides other channel).1 (good.apart channel other file digits theirs owned acted)) ∙ apart)) ∙ spared_at channel digits mid spares file owned
  spared_at channel digits disk (by_syncs {mid = mid} syncs spares) file owned =
      let same = spared_at channel digits mid spares file owned in
      syncs_rest disk file syncs (still_rests mid file same) ∙ same

  -- a request to one channel
  module _ (before after : Channels) (old new : Disk) (mine : List ℕ) (now : State) (digits : IsDigits 32 mine) (changes : Changes before mine now after)
      (acts : Grew (logs.owns mine) old new) (syncs : now ≡ unseen → OnlySyncs (logs.owns mine) old new) (was : now ≡ unseen → before.at mine ≡ unseen) where
    differ : (channel file : List ℕ) → IsDigits 32 channel → bytes_eq mine channel ≡ false → logs.owns channel file → logs.owns mine file → ⊥
    differ channel file other apart theirs owned = true≢false (sym ((bytes_eq-Decides mine channel).1 (good.apart channel mine file other digits theirs owned)) ∙ apart)

    pub untouched_after : AreUntouched logs entry before old → AreUntouched logs entry after new
    untouched_after untouched channel other none file owned = by (bytes_eq mine channel) refl
      where
        here : (now ≡ unseen) → logs.owns mine file → file_at new file ≡ file_at entry file
        here unloaded owned =
            let same = untouched mine digits (was unloaded) file owned in
            syncs_rest new file (syncs unloaded) (still_rests old file same) ∙ same

        by : (b : Bool) → bytes_eq mine channel ≡ b → file_at new file ≡ file_at entry file
        by true e =
            let same = (bytes_eq-Decides mine channel).0 e in
            here (sym changes.this ∙ subst (λ (c : List ℕ). after.at c ≡ unseen) (sym same) none) (subst (λ (c : List ℕ). logs.owns c file) (sym same) owned)
        by false e = elsewhere new file acts (differ channel file other e owned) ∙ untouched channel other (sym (changes.others channel e) ∙ none) file owned

    pub unloaded_after : (stays : (damage : Damage) → before.at mine ≡ unseen → logs.finds mine (reads old) (damages damage) → now ≡ unseen)
        → AreUntouched logs entry before old → AreUnloaded logs entry before → AreUnloaded logs entry after
    unloaded_after stays untouched unloaded channel damage other found = by (bytes_eq mine channel) refl
      where
        here : logs.finds mine (reads entry) (damages damage) → after.at mine ≡ unseen
        here found =
            let none = unloaded mine damage digits found in
            changes.this ∙ stays damage none (good.by_files mine (reads entry) (reads old) (damages damage) (found_on before old mine digits untouched none) found)

        by : (b : Bool) → bytes_eq mine channel ≡ b → after.at channel ≡ unseen
        by true e =
            let same = (bytes_eq-Decides mine channel).0 e in
            subst (λ (c : List ℕ). after.at c ≡ unseen) same (here (subst (λ (c : List ℕ). logs.finds c (reads entry) (damages damage)) (sym same) found))
        by false e = changes.others channel e ∙ unloaded channel damage other found

  -- what comes of the answer of the rooms
  after_answer : (identities : Identities) (state : ServeState) (moment : ℕ) (outs : List Out) (next : ServeState) (answer : Answer) → Becomes logs identities state moment outs next answer
      → AreUntouched logs entry state.channels state.disk → AreUnloaded logs entry state.channels
      → AreUntouched logs entry next.channels next.disk × AreUnloaded logs entry next.channels
  after_answer identities state moment outs next (made what) got untouched unloaded =
      subst (λ (n : ServeState). AreUntouched logs entry n.channels n.disk × AreUnloaded logs entry n.channels) (sym got.1) (untouched, unloaded)
  after_answer identities state moment outs next (stores number seq channel content) (result, now, stored, gives, in_channel, leaves) untouched unloaded =
      let added = payload_of moment (id_of identities state.rooms number) content ∷ [] in
      let was = stored_was (logs.finds channel (reads state.disk)) state.channels.loaded (state.channels.at channel) now added result stored in (
        untouched_after state.channels next.channels state.disk next.disk channel now leaves.digits in_channel.changes leaves.acts leaves.unloaded was untouched,
        unloaded_after state.channels next.channels state.disk next.disk channel now leaves.digits in_channel.changes leaves.acts leaves.unloaded was
            (λ damage none found. stored_stays (logs.finds channel (reads state.disk)) state.channels.loaded (state.channels.at channel) now none
            (λ held suspense listed. good.either channel (reads state.disk) damage held suspense found listed) added result stored) untouched unloaded,
      )
  after_answer identities state moment outs next (asks number seq ask) (result, now, answered, gives, in_channel, leaves) untouched unloaded =
      let channel = channel_of ask in
      let was = asked_was (logs.finds channel (reads state.disk)) state.channels.loaded (state.channels.at channel) now _ result answered in (
        untouched_after state.channels next.channels state.disk next.disk channel now leaves.digits in_channel.changes (syncs_grew next.disk leaves.syncs) (λ none. leaves.syncs) was untouched,
        unloaded_after state.channels next.channels state.disk next.disk channel now leaves.digits in_channel.changes (syncs_grew next.disk leaves.syncs) (λ none. leaves.syncs) was
            (λ damage none found. asked_stays (logs.finds channel (reads state.disk)) state.channels.loaded (state.channels.at channel) now none
            (λ held suspense listed. good.either channel (reads state.disk) damage held suspense found listed) _ result answered) untouched unloaded,
      )

  -- What holds of each state of a run: steps of the hub lead to it, and of channels that are not loaded what is said above.
  pub record Holds (first now : Serving) : Type 0 where
    pub events : List (ℕ × Event)
    pub outputs : List (List Out)
    pub runs : Runs logs first.identities first.state events outputs now.state
    pub same : now ≡ record first { state = now.state }
    pub untouched : AreUntouched logs entry now.state.channels now.state.disk
    pub unloaded : AreUnloaded logs entry now.state.channels

  pub kept : (first before : Serving) (moment : ℕ) (event : Event) (outs : List Out) (now : Serving) → Serves logs before moment event outs now → Holds first before → Holds first now
  kept first before moment event outs now serves holds =
      let ids : before.identities ≡ first.identities = ap (λ (s : Serving). s.identities) holds.same in
      let answer = steps_answer before.identities before.state.rooms event (Becomes logs before.identities before.state moment outs now.state) serves.step in
      let then = after_answer before.identities before.state moment outs now.state answer.0 answer.1 holds.untouched holds.unloaded in
      record {
        events = holds.events ++ (moment, event) ∷ [];
        outputs = holds.outputs ++ outs ∷ [];
        runs = goes_on holds.events holds.outputs moment event outs holds.runs (subst (λ (i : Identities). Step logs i before.state moment event outs now.state) ids serves.step);
        same = serves.now_is ∙ ap (λ (s : Serving). record s { state = now.state }) holds.same;
        untouched = then.0;
        unloaded = then.1;
      }
