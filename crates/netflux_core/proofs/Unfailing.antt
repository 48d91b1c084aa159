-- Runs in which no step failed: each channel has the list at first, and then what was stored in it.
use Rattle.std.proofs.Common.{◌≡◌, ◌∙◌, ◌⊎◌, inl, inr, ℕ, Bool, true, false, List, [], ◌∷◌, ◌++◌, Result, Ok, Err, refl, sym, ap, subst, bytes_eq, if◌then◌else◌, arith}
use Rattle.std.proofs.lemmas.List.{append-nil, append_assoc}
use Rattle.std.proofs.lemmas.Slice.Eq.{bytes_eq-Decides}
use Rattle.disk_volume.specs.Disk.{Disk, reads}
use Rattle.disk_volume.specs.Moments.{OnlySyncs}
use Rattle.disk_volume.specs.Lemmas.Others.{syncs_grew}
use Rattle.keeper_channel.specs.declared.refused.KeeperRefused.{KeeperRefused}
use Rattle.keeper_channel.specs.declared.refused.KeeperRefused.TheVariants.{Full, Store, Damaged, NoMemory}
use Rattle.keeper_entry.specs.Entry.{payload_of}
use Rattle.keeper_state.specs.State.{State, unseen, live, lists, Reaches, AnswersByReading, Stores}
use Rattle.netflux_codec.specs.declared.ask.Ask.{Ask}
use Rattle.netflux_rooms.specs.Machine.{Answer, made, stores, asks}
use Rattle.netflux_rooms.specs.Rooms.{Identities, id_of}
use Rattle.netflux_rooms.proofs.CallerLemmas.{steps_answer}
use Rattle.serve_loop.specs.declared.event.Event.{Event}
use Rattle.serve_loop.specs.declared.out.Out.{Out}
use Rattle.netflux_core.specs.Crashes.{ChannelLogs, LeavesAsked, LeavesStored}
use Rattle.netflux_core.specs.Histories.{channel_of}
use Rattle.netflux_core.specs.Machine.{StoredEntry, ServeState, InChannel, StoreGives, AskGives, Becomes, stored_after}
use Rattle.netflux_core.specs.Runs.{Runs, begins, goes_on}
use Rattle.netflux_core.specs.Stored.{stored_in, Spares, by_another, by_syncs, HoldsAllStored}
use Rattle.netflux_core.specs.Words.{Refuses, failures_after}

-- what is stored in a channel after one more entry
in_here : (channel : List ℕ) (entries : List StoredEntry) (index : ℕ) (payload : List ℕ)
    → stored_in channel (entries ++ record { channel = channel; index = index; payload = payload } ∷ []) ≡ stored_in channel entries ++ payload ∷ []
in_here channel [] index payload = ap (λ (b : Bool). if b then payload ∷ [] else []) ((bytes_eq-Decides channel channel).1 refl)
in_here channel (first ∷ entries) index payload = by (bytes_eq channel first.channel) _ (stored_in channel entries) (in_here channel entries index payload)
  where
    by : (b : Bool) (more less : List (List ℕ)) → more ≡ less ++ payload ∷ [] → (if b then first.payload ∷ more else more) ≡ (if b then first.payload ∷ less else less) ++ payload ∷ []
    by true more less e = ap (λ (l : List (List ℕ)). first.payload ∷ l) e
    by false more less e = e

in_other : (channel other : List ℕ) (entries : List StoredEntry) (index : ℕ) (payload : List ℕ) → bytes_eq other channel ≡ false
    → stored_in other (entries ++ record { channel = channel; index = index; payload = payload } ∷ []) ≡ stored_in other entries
in_other channel other [] index payload apart = ap (λ (b : Bool). if b then payload ∷ [] else []) apart
in_other channel other (first ∷ entries) index payload apart = ap (λ (l : List (List ℕ)). if bytes_eq other first.channel then first.payload ∷ l else l) (in_other channel other entries index payload apart)

turned : (channel other : List ℕ) (b : Bool) → bytes_eq channel other ≡ b → bytes_eq other channel ≡ b
turned channel other true e = (bytes_eq-Decides other channel).1 (sym ((bytes_eq-Decides channel other).0 e))
turned channel other false e = by (bytes_eq other channel) refl
  where
    by : (b : Bool) → bytes_eq other channel ≡ b → b ≡ false
    by true e2 = sym ((bytes_eq-Decides channel other).1 (sym ((bytes_eq-Decides other channel).0 e2))) ∙ e
    by false e2 = refl

-- what holds of one channel, by its state and what was stored in it
module _ (logs : ChannelLogs) (first : Disk) (channel : List ℕ) where
  abbrev pub Holds : State → (stored : List (List ℕ)) → Disk → Type 0
  Holds state stored disk = ((state ≡ unseen) × (stored ≡ []) × Spares logs channel first disk)
      ⊎ ((at : Disk) × (list : List (List ℕ)) × (doubtful : List (List ℕ)) × (suspense : List (List ℕ)) × Spares logs channel first at
      × logs.finds channel (reads at) (lists list doubtful) × (state ≡ live (list ++ stored) suspense))

  -- a request came to a list and left it with some more
  came_with : (before now : State) (stored held suspense added after : List (List ℕ)) (disk new : Disk) → Reaches (logs.finds channel (reads disk)) before held suspense
      → now ≡ live (held ++ added) after → Holds before stored disk → Holds now (stored ++ added) new
  came_with before now stored held suspense added after disk new reached is (inl (none, empty, spares)) =
      inr (
        disk,
        held,
        suspense,
        after,
        spares,
        subst (λ (s : State). Reaches (logs.finds channel (reads disk)) s held suspense) none reached,
        is ∙ ap (λ (l : List (List ℕ)). live (held ++ (l ++ added)) after) (sym empty),
      )
  came_with before now stored held suspense added after disk new reached is (inr (at, list, doubtful, old, spares, found, has)) =
      let same = subst (λ (s : State). Reaches (logs.finds channel (reads disk)) s held suspense) has reached in
      inr (at, list, doubtful, after, spares, found, is ∙ ap (λ (l : List (List ℕ)). live (l ++ added) after) same.0 ∙ ap (λ (l : List (List ℕ)). live l after) (append_assoc list stored added))

  -- or as it was
  came_to : (before now : State) (stored held suspense after : List (List ℕ)) (disk new : Disk) → Reaches (logs.finds channel (reads disk)) before held suspense
      → now ≡ live held after → Holds before stored disk → Holds now stored new
  came_to before now stored held suspense after disk new reached is holds = subst (λ (l : List (List ℕ)). Holds now l new) (append-nil stored)
      (came_with before now stored held suspense [] after disk new reached (is ∙ ap (λ (l : List (List ℕ)). live l after) (sym (append-nil held))) holds)

  -- or it did not come to one
  remains : (before now : State) (stored : List (List ℕ)) (disk new : Disk) → now ≡ before → (now ≡ unseen → Spares logs channel first disk → Spares logs channel first new)
      → Holds before stored disk → Holds now stored new
  remains before now stored disk new same on (inl (none, empty, spares)) = inl (same ∙ none, empty, on (same ∙ none) spares)
  remains before now stored disk new same on (inr (at, list, doubtful, old, spares, found, has)) = inr (at, list, doubtful, old, spares, found, same ∙ has)

  -- a message to it that is refused, but not since the volume failed or for want of memory
  refused_holds : (loaded failures : ℕ) (before now : State) (stored added : List (List ℕ)) (why : KeeperRefused) (disk new : Disk) (number seq : ℕ) (outs : List Out)
      → Stores (logs.finds channel (reads disk)) loaded before added (Err why) now → failures_after {T = ℕ} failures (Err why) ≡ 0 → Refuses number seq channel why outs
      → (now ≡ unseen → OnlySyncs (logs.owns channel) disk new) → Holds before stored disk → Holds now stored new
  refused_holds loaded failures before now stored added Full disk new number seq outs (inl got) none gives unloaded holds = remains before now stored disk new got.1 (λ e spares. by_syncs (unloaded e) spares) holds
  refused_holds loaded failures before now stored added Full disk new number seq outs (inr got) none gives unloaded holds = came_to before now stored got.1 got.2 got.2 disk new got.3 got.4.1 holds
  refused_holds loaded failures before now stored added Store disk new number seq outs got none gives unloaded holds = absurd (omega (arith, none))
  refused_holds loaded failures before now stored added (Damaged damage) disk new number seq outs (inl got) none gives unloaded holds = remains before now stored disk new got.1 (λ e spares. by_syncs (unloaded e) spares) holds
  refused_holds loaded failures before now stored added (Damaged damage) disk new number seq outs (inr got) none gives unloaded holds = absurd got.4
  refused_holds loaded failures before now stored added (NoMemory memory) disk new number seq outs got none gives unloaded holds = absurd gives

  -- a question about it
  question_holds : (loaded failures : ℕ) (before now : State) (stored : List (List ℕ)) (result : Result (List (List ℕ)) KeeperRefused) (disk new : Disk) (keeper : List ℕ) (number seq : ℕ) (ask : Ask) (outs : List Out)
      → AnswersByReading (logs.finds channel (reads disk)) loaded before (λ held told. told ≡ held) result now → failures_after failures result ≡ 0 → AskGives keeper number seq ask result outs
      → OnlySyncs (logs.owns channel) disk new → Holds before stored disk → Holds now stored new
  question_holds loaded failures before now stored (Ok told) disk new keeper number seq ask outs got none gives syncs holds = came_to before now stored got.1 got.2 got.2 disk new got.3 got.4.1 holds
  question_holds loaded failures before now stored (Err Full) disk new keeper number seq ask outs (inl got) none gives syncs holds = remains before now stored disk new got.1 (λ e spares. by_syncs syncs spares) holds
  question_holds loaded failures before now stored (Err Full) disk new keeper number seq ask outs (inr got) none gives syncs holds = absurd got.4
  question_holds loaded failures before now stored (Err Store) disk new keeper number seq ask outs got none gives syncs holds = absurd (omega (arith, none))
  question_holds loaded failures before now stored (Err (Damaged damage)) disk new keeper number seq ask outs (inl got) none gives syncs holds = remains before now stored disk new got.1 (λ e spares. by_syncs syncs spares) holds
  question_holds loaded failures before now stored (Err (Damaged damage)) disk new keeper number seq ask outs (inr got) none gives syncs holds = absurd got.4
  question_holds loaded failures before now stored (Err (NoMemory memory)) disk new keeper number seq ask outs got none gives syncs holds = absurd gives

module _ (logs : ChannelLogs) (identities : Identities) (first : Disk) (other : List ℕ) where
  -- a message to some channel
  stored_all : (state next : ServeState) (number seq : ℕ) (channel content payload : List ℕ) (outs : List Out) (result : Result ℕ KeeperRefused) (now : State)
      → Stores (logs.finds channel (reads state.disk)) state.channels.loaded (state.channels.at channel) (payload ∷ []) result now
      → StoreGives identities state.rooms number seq channel content result outs
      → InChannel state channel now (failures_after state.failures result) (stored_after state.stored channel payload result) next
      → LeavesStored logs state.channels channel (payload ∷ []) result now state.disk next.disk
      → next.failures ≡ 0 → HoldsAllStored logs first other state → HoldsAllStored logs first other next
  stored_all state next number seq channel content payload outs result now stored gives in_channel leaves none holds = by (bytes_eq channel other) refl
    where
      here : (result : Result ℕ KeeperRefused) → Stores (logs.finds other (reads state.disk)) state.channels.loaded (state.channels.at other) (payload ∷ []) result now
          → StoreGives identities state.rooms number seq other content result outs → failures_after state.failures result ≡ 0 → (now ≡ unseen → OnlySyncs (logs.owns other) state.disk next.disk)
          → Holds logs first other now (stored_in other (stored_after state.stored other payload result)) next.disk
      here (Ok index) stored gives none unloaded = subst (λ (l : List (List ℕ)). Holds logs first other now l next.disk) (sym (in_here other state.stored index payload))
          (came_with logs first other (state.channels.at other) now (stored_in other state.stored) stored.1 stored.2 (payload ∷ []) [] state.disk next.disk stored.3 stored.4.2 holds)
      here (Err why) stored gives none unloaded = refused_holds logs first other state.channels.loaded state.failures (state.channels.at other) now (stored_in other state.stored) (payload ∷ []) why state.disk next.disk number seq outs stored none gives unloaded holds

      there : (result : Result ℕ KeeperRefused) → bytes_eq other channel ≡ false → stored_in other (stored_after state.stored channel payload result) ≡ stored_in other state.stored
      there (Ok index) apart = in_other channel other state.stored index payload apart
      there (Err why) apart = refl

      by : (b : Bool) → bytes_eq channel other ≡ b → HoldsAllStored logs first other next
      by true e =
          let same = (bytes_eq-Decides channel other).0 e in
          subst (λ (s : State). Holds logs first other s (stored_in other next.stored) next.disk) (sym (subst (λ (c : List ℕ). next.channels.at c ≡ now) same in_channel.changes.this))
          (subst (λ (l : List StoredEntry). Holds logs first other now (stored_in other l) next.disk) (sym (subst (λ (c : List ℕ). next.stored ≡ stored_after state.stored c payload result) same in_channel.stored_are))
          (here result (subst (λ (c : List ℕ). Stores (logs.finds c (reads state.disk)) state.channels.loaded (state.channels.at c) (payload ∷ []) result now) same stored)
          (subst (λ (c : List ℕ). StoreGives identities state.rooms number seq c content result outs) same gives) (sym in_channel.failures_are ∙ none)
          (subst (λ (c : List ℕ). now ≡ unseen → OnlySyncs (logs.owns c) state.disk next.disk) same leaves.unloaded)))
      by false e = subst (λ (l : List (List ℕ)). Holds logs first other (next.channels.at other) l next.disk)
          (sym (ap (λ (l : List StoredEntry). stored_in other l) in_channel.stored_are ∙ there result (turned channel other false e)))
          (remains logs first other (state.channels.at other) (next.channels.at other) (stored_in other state.stored) state.disk next.disk (in_channel.changes.others other e)
          (λ unloaded spares. by_another channel leaves.digits e leaves.acts spares) holds)

  -- a question about some channel
  asked_all : (state next : ServeState) (number seq : ℕ) (ask : Ask) (outs : List Out) (result : Result (List (List ℕ)) KeeperRefused) (now : State)
      → AnswersByReading (logs.finds (channel_of ask) (reads state.disk)) state.channels.loaded (state.channels.at (channel_of ask)) (λ held told. told ≡ held) result now
      → AskGives identities.keeper number seq ask result outs
      → InChannel state (channel_of ask) now (failures_after state.failures result) state.stored next
      → LeavesAsked logs state.channels (channel_of ask) now state.disk next.disk
      → next.failures ≡ 0 → HoldsAllStored logs first other state → HoldsAllStored logs first other next
  asked_all state next number seq ask outs result now read gives in_channel leaves none holds =
      subst (λ (l : List StoredEntry). Holds logs first other (next.channels.at other) (stored_in other l) next.disk) (sym in_channel.stored_are) (by (bytes_eq (channel_of ask) other) refl)
    where
      by : (b : Bool) → bytes_eq (channel_of ask) other ≡ b → Holds logs first other (next.channels.at other) (stored_in other state.stored) next.disk
      by true e =
          let same = (bytes_eq-Decides (channel_of ask) other).0 e in
          subst (λ (s : State). Holds logs first other s (stored_in other state.stored) next.disk) (sym (subst (λ (c : List ℕ). next.channels.at c ≡ now) same in_channel.changes.this))
          (question_holds logs first other state.channels.loaded state.failures (state.channels.at other) now (stored_in other state.stored) result state.disk next.disk identities.keeper number seq ask outs
          (subst (λ (c : List ℕ). AnswersByReading (logs.finds c (reads state.disk)) state.channels.loaded (state.channels.at c) (λ held told. told ≡ held) result now) same read)
          (sym in_channel.failures_are ∙ none) gives (subst (λ (c : List ℕ). OnlySyncs (logs.owns c) state.disk next.disk) same leaves.syncs) holds)
      by false e = remains logs first other (state.channels.at other) (next.channels.at other) (stored_in other state.stored) state.disk next.disk (in_channel.changes.others other e)
          (λ unloaded spares. by_another (channel_of ask) leaves.digits e (syncs_grew next.disk leaves.syncs) spares) holds

  by_answer : (state next : ServeState) (moment : ℕ) (outs : List Out) (answer : Answer) → Becomes logs identities state moment outs next answer
      → next.failures ≡ 0 → HoldsAllStored logs first other state → HoldsAllStored logs first other next
  by_answer state next moment outs (made what) becomes none holds = subst (λ (s : ServeState). HoldsAllStored logs first other s) (sym becomes.1) holds
  by_answer state next moment outs (stores number seq channel content) becomes none holds =
      stored_all state next number seq channel content (payload_of moment (id_of identities state.rooms number) content) outs becomes.0 becomes.1 becomes.2 becomes.3 becomes.4 becomes.5 none holds
  by_answer state next moment outs (asks number seq ask) becomes none holds = asked_all state next number seq ask outs becomes.0 becomes.1 becomes.2 becomes.3 becomes.4 becomes.5 none holds

  -- failures are never fewer
  fewer : {T : Type 0} (failures : ℕ) (result : Result T KeeperRefused) → failures_after failures result ≡ 0 → failures ≡ 0
  fewer failures (Ok value) none = none
  fewer failures (Err Full) none = none
  fewer failures (Err Store) none = absurd (omega (arith, none))
  fewer failures (Err (Damaged damage)) none = none
  fewer failures (Err (NoMemory memory)) none = none

  none_before : (state next : ServeState) (moment : ℕ) (outs : List Out) (answer : Answer) → Becomes logs identities state moment outs next answer → next.failures ≡ 0 → state.failures ≡ 0
  none_before state next moment outs (made what) becomes none = sym (ap (λ (s : ServeState). s.failures) becomes.1) ∙ none
  none_before state next moment outs (stores number seq channel content) becomes none = fewer state.failures becomes.0 (sym becomes.4.failures_are ∙ none)
  none_before state next moment outs (asks number seq ask) becomes none = fewer state.failures becomes.0 (sym becomes.4.failures_are ∙ none)

  pub run_holds : (begun next : ServeState) (events : List (ℕ × Event)) (outputs : List (List Out)) → Runs logs identities begun events outputs next
      → next.failures ≡ 0 → HoldsAllStored logs first other begun → HoldsAllStored logs first other next
  run_holds begun next events outputs begins none holds = holds
  run_holds begun last events outputs (goes_on before given {state} {next} moment event outs run step) none holds =
      let got = steps_answer identities state.rooms event (Becomes logs identities state moment outs next) step in
      by_answer state next moment outs got.0 got.1 none (run_holds begun state before given run (none_before state next moment outs got.0 got.1 none) holds)
