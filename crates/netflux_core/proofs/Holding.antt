-- Entries that were stored stay where they are.
use Rattle.std.proofs.Common.{◌≡◌, ◌∙◌, inl, inr, ◌⊎◌, ℕ, zero, suc, Bool, true, false, List, [], ◌∷◌, ◌++◌, length, slice_get, Some, Result, Ok, Err, refl, sym, ap, subst, bytes_eq}
use Rattle.std.proofs.lemmas.Slice.Eq.{bytes_eq-Decides}
use Rattle.disk_volume.specs.Disk.{reads}
use Rattle.keeper_channel.specs.declared.refused.KeeperRefused.{KeeperRefused}
use Rattle.keeper_channel.specs.declared.refused.KeeperRefused.TheVariants.{Full, Store, Damaged, NoMemory}
use Rattle.keeper_entry.specs.Entry.{payload_of}
use Rattle.keeper_state.specs.State.{State, unseen, live, again, Found, Reaches, ReadRefused, StoreRefused, AnswersByReading, Stores}
use Rattle.netflux_rooms.specs.Machine.{Answer, made, stores, asks}
use Rattle.netflux_rooms.specs.Rooms.{Identities, id_of}
use Rattle.netflux_rooms.proofs.CallerLemmas.{steps_answer}
use Rattle.serve_loop.specs.declared.event.Event.{Event}
use Rattle.serve_loop.specs.declared.out.Out.{Out}
use Rattle.pad_text.specs.Digits.{IsDigits}
use Rattle.netflux_core.specs.Channels.{Channels, Changes}
use Rattle.netflux_core.specs.Crashes.{ChannelLogs}
use Rattle.netflux_core.specs.Histories.{channel_of}
use Rattle.netflux_core.specs.Machine.{StoredEntry, ServeState, InChannel, Becomes, Step, stored_after}
use Rattle.netflux_core.specs.Runs.{Runs, begins, goes_on}
use Rattle.netflux_core.specs.Stored.{HoldsAt, AreHeld}
use Rattle.netflux_core.specs.Words.{failures_after}

-- what stands in a list stands in it with more behind it
got_more : (xs ys : List (List ℕ)) (i : ℕ) (x : List ℕ) → slice_get xs i ≡ Some x → slice_get (xs ++ ys) i ≡ Some x
got_more [] ys i x got = absurd (cc)
got_more (z ∷ xs) ys zero x got = got
got_more (z ∷ xs) ys (suc i) x got = got_more xs ys i x got

-- and the first of those stands behind it
got_next : (xs ys : List (List ℕ)) (x : List ℕ) → slice_get (xs ++ x ∷ ys) (length xs) ≡ Some x
got_next [] ys x = refl
got_next (z ∷ xs) ys x = got_next xs ys x

-- what is held stays held
abbrev pub Stays : State → State → Type 0
Stays before now = (index : ℕ) (payload : List ℕ) → HoldsAt before index payload → HoldsAt now index payload

-- a request comes to a list in which all that was held is
reached : (finds : Found → Type 0) (before : State) (list doubtful : List (List ℕ)) → Reaches finds before list doubtful
    → (index : ℕ) (payload : List ℕ) → HoldsAt before index payload → slice_get list index ≡ Some payload
reached finds unseen list doubtful reaches index payload holds = absurd holds
reached finds (live held suspense) list doubtful reaches index payload holds = ap (λ (l : List (List ℕ)). slice_get l index) reaches.0 ∙ holds
reached finds (again held suspense) list doubtful (found, inl is) index payload holds = ap (λ (l : List (List ℕ)). slice_get l index) is ∙ holds
reached finds (again held suspense) list doubtful (found, inr is) index payload holds =
    ap (λ (l : List (List ℕ)). slice_get l index) is ∙ got_more held suspense index payload holds

to_live : (before now : State) (list more suspense : List (List ℕ)) → now ≡ live (list ++ more) suspense
    → ((index : ℕ) (payload : List ℕ) → HoldsAt before index payload → slice_get list index ≡ Some payload) → Stays before now
to_live before now list more suspense is on index payload holds = subst (λ (s : State). HoldsAt s index payload) (sym is) (got_more list more index payload (on index payload holds))

to_same : (before now : State) (list suspense : List (List ℕ)) → (now ≡ live list suspense) ⊎ (now ≡ again list suspense)
    → ((index : ℕ) (payload : List ℕ) → HoldsAt before index payload → slice_get list index ≡ Some payload) → Stays before now
to_same before now list suspense (inl is) on index payload holds = subst (λ (s : State). HoldsAt s index payload) (sym is) (on index payload holds)
to_same before now list suspense (inr is) on index payload holds = subst (λ (s : State). HoldsAt s index payload) (sym is) (on index payload holds)

same_stays : (before now : State) → now ≡ before → Stays before now
same_stays before now is index payload holds = subst (λ (s : State). HoldsAt s index payload) (sym is) holds

read_stays : (before now : State) (list suspense : List (List ℕ)) (why : KeeperRefused) → ReadRefused list suspense why now
    → ((index : ℕ) (payload : List ℕ) → HoldsAt before index payload → slice_get list index ≡ Some payload) → Stays before now
read_stays before now list suspense Full left on = absurd left
read_stays before now list suspense Store left on = to_same before now list suspense (inr left) on
read_stays before now list suspense (Damaged damage) left on = absurd left
read_stays before now list suspense (NoMemory memory) left on = to_same before now list suspense (inl left) on

store_stays : (before now : State) (list suspense added : List (List ℕ)) (why : KeeperRefused) → StoreRefused list suspense added why now
    → ((index : ℕ) (payload : List ℕ) → HoldsAt before index payload → slice_get list index ≡ Some payload) → Stays before now
store_stays before now list suspense added Full left on = to_same before now list suspense (inl left.1) on
store_stays before now list suspense added Store (room, inl is) on = to_same before now list suspense (inr is) on
store_stays before now list suspense added Store (room, inr is) on = to_same before now list added (inr is) on
store_stays before now list suspense added (Damaged damage) left on = absurd left
store_stays before now list suspense added (NoMemory memory) (inl is) on = to_same before now list suspense (inl is) on
store_stays before now list suspense added (NoMemory memory) (inr is) on = to_same before now list suspense (inr is) on

-- a question leaves what is held
asked_stays : (finds : Found → Type 0) (loaded : ℕ) (before : State) (result : Result (List (List ℕ)) KeeperRefused) (now : State)
    → AnswersByReading finds loaded before (λ held told. told ≡ held) result now → Stays before now
asked_stays finds loaded before (Ok told) now got = to_same before now got.1 got.2 (inl got.4.1) (reached finds before got.1 got.2 got.3)
asked_stays finds loaded before (Err why) now (inl got) = same_stays before now got.1
asked_stays finds loaded before (Err why) now (inr got) = read_stays before now got.1 got.2 why got.4 (reached finds before got.1 got.2 got.3)

-- and so does a message
stored_stays : (finds : Found → Type 0) (loaded : ℕ) (before : State) (added : List (List ℕ)) (result : Result ℕ KeeperRefused) (now : State)
    → Stores finds loaded before added result now → Stays before now
stored_stays finds loaded before added (Ok index) now got = to_live before now got.1 added [] got.4.2 (reached finds before got.1 got.2 got.3)
stored_stays finds loaded before added (Err why) now (inl got) = same_stays before now got.1
stored_stays finds loaded before added (Err why) now (inr got) = store_stays before now got.1 got.2 added why got.4 (reached finds before got.1 got.2 got.3)

-- what a message stored stands where it was stored
stored_holds : (finds : Found → Type 0) (loaded : ℕ) (before : State) (payload : List ℕ) (index : ℕ) (now : State)
    → Stores finds loaded before (payload ∷ []) (Ok index) now → HoldsAt now index payload
stored_holds finds loaded before payload index now got = subst (λ (s : State). HoldsAt s index payload) (sym got.4.2)
    (ap (λ (i : ℕ). slice_get (got.1 ++ payload ∷ []) i) got.4.1 ∙ got_next got.1 [] payload)

-- of each channel what is held stays held, if it does in the one that changes
all_stay : (before now : Channels) (channel : List ℕ) (next : State) → Changes before channel next now → Stays (before.at channel) next
    → (other : List ℕ) → Stays (before.at other) (now.at other)
all_stay before now channel next changes stays other = by (bytes_eq channel other) refl
  where
    by : (b : Bool) → bytes_eq channel other ≡ b → Stays (before.at other) (now.at other)
    by true e = subst (λ (o : List ℕ). Stays (before.at o) (now.at o)) ((bytes_eq-Decides channel other).0 e)
        (λ index payload holds. subst (λ (s : State). HoldsAt s index payload) (sym changes.this) (stays index payload holds))
    by false e = same_stays (before.at other) (now.at other) (changes.others other e)

held_on : (before now : Channels) (entries : List StoredEntry) → ((other : List ℕ) → Stays (before.at other) (now.at other)) → AreHeld before entries → AreHeld now entries
held_on before now [] stay held = tt
held_on before now (entry ∷ entries) stay held = (held.0, stay entry.channel entry.index entry.payload held.1, held_on before now entries stay held.2)

held_more : (channels : Channels) (entries : List StoredEntry) (entry : StoredEntry) → AreHeld channels entries → IsDigits 32 entry.channel → HoldsAt (channels.at entry.channel) entry.index entry.payload
    → AreHeld channels (entries ++ entry ∷ [])
held_more channels [] entry held digits holds = (digits, holds, tt)
held_more channels (first ∷ entries) entry held digits holds = (held.0, held.1, held_more channels entries entry held.2 digits holds)

module _ (logs : ChannelLogs) (identities : Identities) where
  stored_held : (state next : ServeState) (channel payload : List ℕ) (result : Result ℕ KeeperRefused) (now : State) → IsDigits 32 channel
      → Stores (logs.finds channel (reads state.disk)) state.channels.loaded (state.channels.at channel) (payload ∷ []) result now
      → InChannel state channel now (failures_after state.failures result) (stored_after state.stored channel payload result) next
      → AreHeld state.channels state.stored → AreHeld next.channels next.stored
  stored_held state next channel payload result now digits stored in_channel held = subst (λ (l : List StoredEntry). AreHeld next.channels l) (sym in_channel.stored_are) (by result stored)
    where
      kept : Stays (state.channels.at channel) now → AreHeld next.channels state.stored
      kept stays = held_on state.channels next.channels state.stored (all_stay state.channels next.channels channel now in_channel.changes stays) held

      by : (result : Result ℕ KeeperRefused) → Stores (logs.finds channel (reads state.disk)) state.channels.loaded (state.channels.at channel) (payload ∷ []) result now
          → AreHeld next.channels (stored_after state.stored channel payload result)
      by (Ok index) stored = held_more next.channels state.stored (record { channel = channel; index = index; payload = payload })
          (kept (stored_stays (logs.finds channel (reads state.disk)) state.channels.loaded (state.channels.at channel) (payload ∷ []) (Ok index) now stored)) digits
          (subst (λ (s : State). HoldsAt s index payload) (sym in_channel.changes.this)
          (stored_holds (logs.finds channel (reads state.disk)) state.channels.loaded (state.channels.at channel) payload index now stored))
      by (Err why) stored = kept (stored_stays (logs.finds channel (reads state.disk)) state.channels.loaded (state.channels.at channel) (payload ∷ []) (Err why) now stored)

  by_answer : (state next : ServeState) (moment : ℕ) (outs : List Out) (answer : Answer) → Becomes logs identities state moment outs next answer
      → AreHeld state.channels state.stored → AreHeld next.channels next.stored
  by_answer state next moment outs (made what) becomes held = subst (λ (s : ServeState). AreHeld s.channels s.stored) (sym becomes.1) held
  by_answer state next moment outs (stores number seq channel content) becomes held =
      stored_held state next channel (payload_of moment (id_of identities state.rooms number) content) becomes.0 becomes.1 becomes.5.digits becomes.2 becomes.4 held
  by_answer state next moment outs (asks number seq ask) becomes held = subst (λ (l : List StoredEntry). AreHeld next.channels l) (sym becomes.4.stored_are)
      (held_on state.channels next.channels state.stored (all_stay state.channels next.channels (channel_of ask) becomes.1 becomes.4.changes
      (asked_stays (logs.finds (channel_of ask) (reads state.disk)) state.channels.loaded (state.channels.at (channel_of ask)) becomes.0 becomes.1 becomes.2)) held)

  step_held : (state next : ServeState) (moment : ℕ) (event : Event) (outs : List Out) → Step logs identities state moment event outs next
      → AreHeld state.channels state.stored → AreHeld next.channels next.stored
  step_held state next moment event outs step held =
      let got = steps_answer identities state.rooms event (Becomes logs identities state moment outs next) step in
      by_answer state next moment outs got.0 got.1 held

  pub run_held : (first next : ServeState) (events : List (ℕ × Event)) (outputs : List (List Out)) → Runs logs identities first events outputs next
      → AreHeld first.channels first.stored → AreHeld next.channels next.stored
  run_held first next events outputs begins held = held
  run_held first last events outputs (goes_on before given {state} {next} moment event outs run step) held =
      step_held state next moment event outs step (run_held first state before given run held)
