-- What a request to one channel makes of it, by what its files held.
use Rattle.std.proofs.Common.{◌≡◌, ◌∙◌, ◌⊎◌, inl, inr, ℕ, List, [], ◌∷◌, ◌++◌, Result, Ok, Err, refl, sym, ap, subst, slice_get, Some}
use Rattle.keeper_channel.specs.declared.refused.KeeperRefused.{KeeperRefused}
use Rattle.keeper_channel.specs.declared.refused.KeeperRefused.TheVariants.{Full, Store, Damaged, NoMemory}
use Rattle.keeper_state.specs.State.{State, unseen, live, again, Found, lists, damages, Reaches, Stores, AnswersByReading, StoreRefused, ReadRefused}
use Rattle.log_format.specs.declared.damage.Damage.{Damage}

-- a channel is loaded, or has to be loaded again
abbrev IsSeen : State → Type 0
IsSeen unseen = ⊥
IsSeen (live held suspense) = Unit {0}
IsSeen (again held suspense) = Unit {0}

seen : (now other : State) → now ≡ other → IsSeen other → now ≡ unseen → ⊥
seen now other is loaded none = subst IsSeen (sym is ∙ none) loaded

module _ (finds : Found → Type 0) (loaded : ℕ) (before now : State) where
  refused_seen : (held suspense added : List (List ℕ)) (why : KeeperRefused) → StoreRefused held suspense added why now → now ≡ unseen → ⊥
  refused_seen held suspense added Full got = seen now (live held suspense) got.1 tt
  refused_seen held suspense added Store (room, inl is) = seen now (again held suspense) is tt
  refused_seen held suspense added Store (room, inr is) = seen now (again held added) is tt
  refused_seen held suspense added (Damaged damage) got = λ none. got
  refused_seen held suspense added (NoMemory memory) (inl is) = seen now (live held suspense) is tt
  refused_seen held suspense added (NoMemory memory) (inr is) = seen now (again held suspense) is tt

  read_refused_seen : (held suspense : List (List ℕ)) (why : KeeperRefused) → ReadRefused held suspense why now → now ≡ unseen → ⊥
  read_refused_seen held suspense Full got = λ none. got
  read_refused_seen held suspense Store is = seen now (again held suspense) is tt
  read_refused_seen held suspense (Damaged damage) got = λ none. got
  read_refused_seen held suspense (NoMemory memory) is = seen now (live held suspense) is tt

  -- one that is not loaded then was not before
  pub stored_was : (added : List (List ℕ)) (result : Result ℕ KeeperRefused) → Stores finds loaded before added result now → now ≡ unseen → before ≡ unseen
  stored_was added (Ok index) got none = absurd (seen now (live (got.1 ++ added) []) got.4.2 tt none)
  stored_was added (Err why) (inl got) none = sym got.1 ∙ none
  stored_was added (Err why) (inr got) none = absurd (refused_seen got.1 got.2 added why got.4 none)

  pub asked_was : (Is : List (List ℕ) → List (List ℕ) → Type 0) (result : Result (List (List ℕ)) KeeperRefused) → AnswersByReading finds loaded before Is result now → now ≡ unseen → before ≡ unseen
  asked_was Is (Ok told) got none = absurd (seen now (live got.1 got.2) got.4.1 tt none)
  asked_was Is (Err why) (inl got) none = sym got.1 ∙ none
  asked_was Is (Err why) (inr got) none = absurd (read_refused_seen got.1 got.2 why got.4 none)

  -- one whose files are damaged is not loaded
  module _ (none : before ≡ unseen) (no_list : (held suspense : List (List ℕ)) → finds (lists held suspense) → ⊥) where
    not_reached : (held suspense : List (List ℕ)) → Reaches finds before held suspense → ⊥
    not_reached held suspense reached = no_list held suspense (subst (λ (s : State). Reaches finds s held suspense) none reached)

    pub stored_stays : (added : List (List ℕ)) (result : Result ℕ KeeperRefused) → Stores finds loaded before added result now → now ≡ unseen
    stored_stays added (Ok index) got = absurd (not_reached got.1 got.2 got.3)
    stored_stays added (Err why) (inl got) = got.1 ∙ none
    stored_stays added (Err why) (inr got) = absurd (not_reached got.1 got.2 got.3)

    pub asked_stays : (Is : List (List ℕ) → List (List ℕ) → Type 0) (result : Result (List (List ℕ)) KeeperRefused) → AnswersByReading finds loaded before Is result now → now ≡ unseen
    asked_stays Is (Ok told) got = absurd (not_reached got.1 got.2 got.3)
    asked_stays Is (Err why) (inl got) = got.1 ∙ none
    asked_stays Is (Err why) (inr got) = absurd (not_reached got.1 got.2 got.3)
