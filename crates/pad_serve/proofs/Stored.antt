-- What was stored is held after a request for which memory ran out.
use Rattle.std.proofs.Common.{◌≡◌, ◌∙◌, ◌⊎◌, inl, inr, ℕ, zero, suc, Bool, true, false, List, [], ◌∷◌, ◌++◌, Result, Ok, Err, refl, sym, subst, ap, slice_get, Some, bytes_eq}
use Rattle.std.proofs.lemmas.Slice.Eq.{bytes_eq-Decides}
use Rattle.keeper_channel.specs.declared.refused.KeeperRefused.{KeeperRefused}
use Rattle.keeper_channel.specs.declared.refused.KeeperRefused.TheVariants.{Full, Store, Damaged, NoMemory}
use Rattle.keeper_state.specs.State.{State, unseen, live, again, Found, Reaches, Stores, AnswersByReading, StoreRefused, ReadRefused}
use Rattle.netflux_core.specs.Channels.{Channels, Changes}
use Rattle.netflux_core.specs.Machine.{StoredEntry}
use Rattle.netflux_core.specs.Stored.{HoldsAt, AreHeld}

-- an entry of the front of a list is one of the list
pub in_front : (front back : List (List ℕ)) (index : ℕ) (payload : List ℕ) → slice_get front index ≡ Some payload → slice_get (front ++ back) index ≡ Some payload
in_front [] back index payload has = absurd (cc)
in_front (first ∷ front) back zero payload has = has
in_front (first ∷ front) back (suc index) payload has = in_front front back index payload has

module _ (finds : Found → Type 0) (loaded : ℕ) (before now : State) (index : ℕ) (payload : List ℕ) where
  reached_has : (state : State) (held suspense : List (List ℕ)) → Reaches finds state held suspense → HoldsAt state index payload → slice_get held index ≡ Some payload
  reached_has unseen held suspense reached has = absurd has
  reached_has (live list doubtful) held suspense reached has = subst (λ (l : List (List ℕ)). slice_get l index ≡ Some payload) (sym reached.0) has
  reached_has (again list doubtful) held suspense (found, inl is) has = subst (λ (l : List (List ℕ)). slice_get l index ≡ Some payload) (sym is) has
  reached_has (again list doubtful) held suspense (found, inr is) has = subst (λ (l : List (List ℕ)). slice_get l index ≡ Some payload) (sym is) (in_front list doubtful index payload has)

  in_state : (state : State) → now ≡ state → HoldsAt state index payload → HoldsAt now index payload
  in_state state is has = subst (λ (s : State). HoldsAt s index payload) (sym is) has

  refused_has : (held suspense added : List (List ℕ)) (why : KeeperRefused) → StoreRefused held suspense added why now → slice_get held index ≡ Some payload → HoldsAt now index payload
  refused_has held suspense added Full got has = in_state (live held suspense) got.1 has
  refused_has held suspense added Store (room, inl is) has = in_state (again held suspense) is has
  refused_has held suspense added Store (room, inr is) has = in_state (again held added) is has
  refused_has held suspense added (Damaged damage) got has = absurd got
  refused_has held suspense added (NoMemory memory) (inl is) has = in_state (live held suspense) is has
  refused_has held suspense added (NoMemory memory) (inr is) has = in_state (again held suspense) is has

  read_refused_has : (held suspense : List (List ℕ)) (why : KeeperRefused) → ReadRefused held suspense why now → slice_get held index ≡ Some payload → HoldsAt now index payload
  read_refused_has held suspense Full got has = absurd got
  read_refused_has held suspense Store is has = in_state (again held suspense) is has
  read_refused_has held suspense (Damaged damage) got has = absurd got
  read_refused_has held suspense (NoMemory memory) is has = in_state (live held suspense) is has

  pub stored_has : (added : List (List ℕ)) (result : Result ℕ KeeperRefused) → Stores finds loaded before added result now → HoldsAt before index payload → HoldsAt now index payload
  stored_has added (Ok at) got has = in_state (live (got.1 ++ added) []) got.4.2 (in_front got.1 added index payload (reached_has before got.1 got.2 got.3 has))
  stored_has added (Err why) (inl got) has = in_state before got.1 has
  stored_has added (Err why) (inr got) has = refused_has got.1 got.2 added why got.4 (reached_has before got.1 got.2 got.3 has)

  pub asked_has : (Is : List (List ℕ) → List (List ℕ) → Type 0) (result : Result (List (List ℕ)) KeeperRefused) → AnswersByReading finds loaded before Is result now → HoldsAt before index payload → HoldsAt now index payload
  asked_has Is (Ok told) got has = in_state (live got.1 got.2) got.4.1 (reached_has before got.1 got.2 got.3 has)
  asked_has Is (Err why) (inl got) has = in_state before got.1 has
  asked_has Is (Err why) (inr got) has = read_refused_has got.1 got.2 why got.4 (reached_has before got.1 got.2 got.3 has)

-- so are all, if those of the one channel are
pub all_held : (before after : Channels) (mine : List ℕ) (now : State) → Changes before mine now after
    → ((index : ℕ) (payload : List ℕ) → HoldsAt (before.at mine) index payload → HoldsAt now index payload)
    → (stored : List StoredEntry) → AreHeld before stored → AreHeld after stored
all_held before after mine now changes on [] held = tt
all_held before after mine now changes on (entry ∷ entries) held = (held.0, by (bytes_eq mine entry.channel) refl, all_held before after mine now changes on entries held.2)
  where
    by : (b : Bool) → bytes_eq mine entry.channel ≡ b → HoldsAt (after.at entry.channel) entry.index entry.payload
    by true e =
        let same = (bytes_eq-Decides mine entry.channel).0 e in
        let there = subst (λ (c : List ℕ). HoldsAt (before.at c) entry.index entry.payload) (sym same) held.1 in
        subst (λ (c : List ℕ). HoldsAt (after.at c) entry.index entry.payload) same
        (subst (λ (s : State). HoldsAt s entry.index entry.payload) (sym changes.this) (on entry.index entry.payload there))
    by false e = subst (λ (s : State). HoldsAt s entry.index entry.payload) (sym (changes.others entry.channel e)) held.1
