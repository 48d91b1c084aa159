-- What a channel holds grows.
use Rattle.std.proofs.Common.{◌≡◌, ◌⊎◌, inl, inr, ℕ, Bool, true, false, List, [], ◌∷◌, ◌++◌, bytes_eq, Result, Ok, Err, refl, sym, ap, ◌∙◌, subst, append_assoc, append-nil}
use Rattle.std.proofs.lemmas.Slice.Eq.{bytes_eq-Decides}
use Rattle.keeper_channel.specs.declared.refused.KeeperRefused.{KeeperRefused}
use Rattle.keeper_channel.specs.declared.refused.KeeperRefused.TheVariants.{Full, Store, Damaged, NoMemory}
use Rattle.keeper_state.specs.State.{State, unseen, live, again, Found, Reaches, ReadRefused, AnswersByReading, StoreRefused, Stores}
use Rattle.disk_volume.specs.Disk.{reads}
use Rattle.netflux_core.specs.Channels.{Channels, Changes}
use Rattle.netflux_core.specs.Crashes.{ChannelLogs}
use Rattle.netflux_core.specs.Histories.{channel_of}
use Rattle.netflux_core.specs.Machine.{ServeState, Becomes}
use Rattle.keeper_entry.specs.Entry.{payload_of}
use Rattle.netflux_rooms.specs.Machine.{Answer, made, stores, asks, Steps}
use Rattle.netflux_rooms.specs.Rooms.{id_of}
use Rattle.netflux_rooms.proofs.CallerLemmas.{steps_answer, IsShort}
use Rattle.hub_laws.specs.Told.{IsHeld}
use Rattle.hub_laws.specs.Laws.{HeldGrows}

-- more is held, behind this
abbrev Grows : State → List (List ℕ) → Type 0
Grows now held = (added : List (List ℕ)) × IsHeld now (held ++ added)

same_grows : (now : State) (held : List (List ℕ)) → IsHeld now held → Grows now held
same_grows now held is = ([], subst (IsHeld now) (sym (append-nil held)) is)

module _ (finds : Found → Type 0) where
  -- a call comes to a list that begins with what was held
  reached : (state : State) (held list suspense : List (List ℕ)) → Reaches finds state list suspense → IsHeld state held → (added : List (List ℕ)) × (list ≡ held ++ added)
  reached unseen held list suspense is was = absurd was
  reached (live old doubtful) held list suspense is was = ([], is.0 ∙ sym was ∙ sym (append-nil held))
  reached (again old doubtful) held list suspense is was = go is.1
    where
      go : (list ≡ old) ⊎ (list ≡ old ++ doubtful) → (added : List (List ℕ)) × (list ≡ held ++ added)
      go (inl e) = ([], e ∙ sym was ∙ sym (append-nil held))
      go (inr e) = (doubtful, e ∙ ap (λ (l : List (List ℕ)). l ++ doubtful) (sym was))

  from_reached : (state now : State) (held list suspense more : List (List ℕ)) → Reaches finds state list suspense → IsHeld state held → IsHeld now (list ++ more) → Grows now held
  from_reached state now held list suspense more reaches was is =
      let r = reached state held list suspense reaches was in
      (r.0 ++ more, subst (IsHeld now) (ap (λ (l : List (List ℕ)). l ++ more) r.1 ∙ append_assoc held r.0 more) is)

  live_held : (now : State) (list suspense : List (List ℕ)) → now ≡ live list suspense → IsHeld now (list ++ [])
  live_held now list suspense e = subst (λ (s : State). IsHeld s (list ++ [])) (sym e) (append-nil list)

  again_held : (now : State) (list suspense : List (List ℕ)) → now ≡ again list suspense → IsHeld now (list ++ [])
  again_held now list suspense e = subst (λ (s : State). IsHeld s (list ++ [])) (sym e) (append-nil list)

  refused_held : (list suspense added : List (List ℕ)) (refused : KeeperRefused) (now : State) → StoreRefused list suspense added refused now → IsHeld now (list ++ [])
  refused_held list suspense added Full now is = live_held now list suspense is.1
  refused_held list suspense added Store now is = go is.1
    where
      go : (now ≡ again list suspense) ⊎ (now ≡ again list added) → IsHeld now (list ++ [])
      go (inl e) = again_held now list suspense e
      go (inr e) = again_held now list added e
  refused_held list suspense added (Damaged damage) now is = absurd is
  refused_held list suspense added (NoMemory error) now (inl e) = live_held now list suspense e
  refused_held list suspense added (NoMemory error) now (inr e) = again_held now list suspense e

  read_held : (list suspense : List (List ℕ)) (refused : KeeperRefused) (now : State) → ReadRefused list suspense refused now → IsHeld now (list ++ [])
  read_held list suspense Full now is = absurd is
  read_held list suspense Store now is = again_held now list suspense is
  read_held list suspense (Damaged damage) now is = absurd is
  read_held list suspense (NoMemory error) now is = live_held now list suspense is

  pub stores_grow : (loaded : ℕ) (state : State) (added : List (List ℕ)) (result : Result ℕ KeeperRefused) (now : State) → Stores finds loaded state added result now
      → (held : List (List ℕ)) → IsHeld state held → Grows now held
  stores_grow loaded state added (Ok index) now is held was =
      from_reached state now held is.1 is.2 added is.3 was (subst (λ (s : State). IsHeld s (is.1 ++ added)) (sym is.4.2) refl)
  stores_grow loaded state added (Err refused) now (inl is) held was = same_grows now held (subst (λ (s : State). IsHeld s held) (sym is.1) was)
  stores_grow loaded state added (Err refused) now (inr is) held was = from_reached state now held is.1 is.2 [] is.3 was (refused_held is.1 is.2 added refused now is.4)

  pub asks_grow : (loaded : ℕ) (state : State) (result : Result (List (List ℕ)) KeeperRefused) (now : State) → AnswersByReading finds loaded state (λ list told. told ≡ list) result now
      → (held : List (List ℕ)) → IsHeld state held → Grows now held
  asks_grow loaded state (Ok told) now is held was = from_reached state now held is.1 is.2 [] is.3 was (live_held now is.1 is.2 is.4.1)
  asks_grow loaded state (Err refused) now (inl is) held was = same_grows now held (subst (λ (s : State). IsHeld s held) (sym is.1) was)
  asks_grow loaded state (Err refused) now (inr is) held was = from_reached state now held is.1 is.2 [] is.3 was (read_held is.1 is.2 refused now is.4)

-- one channel changes so
changes_grow : (before now : Channels) (of channel : List ℕ) (becomes : State) → Changes before of becomes now → ((held : List (List ℕ)) → IsHeld (before.at of) held → Grows becomes held)
    → (held : List (List ℕ)) → IsHeld (before.at channel) held → Grows (now.at channel) held
changes_grow before now of channel becomes changes grows held was = by (bytes_eq of channel) refl
  where
    by : (b : Bool) → bytes_eq of channel ≡ b → Grows (now.at channel) held
    by false e = same_grows (now.at channel) held (subst (λ (s : State). IsHeld s held) (sym (changes.others channel e)) was)
    by true e =
        let same = (bytes_eq-Decides of channel).0 e in
        subst (λ (c : List ℕ). Grows (now.at c) held) same
        (subst (λ (s : State). Grows s held) (sym changes.this) (grows held (subst (λ (c : List ℕ). IsHeld (before.at c) held) (sym same) was)))

pub all_grow : (logs : ChannelLogs) → HeldGrows logs
all_grow logs identities before moment event outs after step channel held was = by got.0 got.1
  where
    got : (answer : Answer) × Becomes logs identities before moment outs after answer × IsShort answer × Steps identities before.rooms event (λ other. other ≡ answer)
    got = steps_answer identities before.rooms event (Becomes logs identities before moment outs after) step

    by : (answer : Answer) → Becomes logs identities before moment outs after answer → Grows (after.channels.at channel) held
    by (made what) is = same_grows (after.channels.at channel) held (subst (λ (s : ServeState). IsHeld (s.channels.at channel) held) (sym is.1) was)
    by (stores number seq of content) is =
        changes_grow before.channels after.channels of channel is.1 is.4.changes (stores_grow (logs.finds of (reads before.disk)) before.channels.loaded (before.channels.at of) (payload_of moment (id_of identities before.rooms number) content ∷ []) is.0 is.1 is.2) held was
    by (asks number seq ask) is =
        changes_grow before.channels after.channels (channel_of ask) channel is.1 is.4.changes (asks_grow (logs.finds (channel_of ask) (reads before.disk)) before.channels.loaded (before.channels.at (channel_of ask)) is.0 is.1 is.2) held was
