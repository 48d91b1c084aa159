-- What a call of a keeper leaves of all channels, by what it says of its own.
use Rattle.std.proofs.Common.{◌≡◌, ◌∙◌, ◌⊎◌, inl, inr, ℕ, Bool, true, false, List, [], ◌∷◌, ◌++◌, Result, Ok, Err, refl, sym, subst, bytes_eq}
use Rattle.std.proofs.lemmas.Slice.Eq.{bytes_eq-Decides}
use Rattle.disk_volume.specs.Disk.{Disk, reads}
use Rattle.disk_volume.specs.Moments.{moment, EachNow, EachSince}
use Rattle.disk_volume.specs.Lemmas.Since.{since_now}
use Rattle.keeper_channel.specs.Chan.{IsWithin}
use Rattle.keeper_channel.specs.declared.refused.KeeperRefused.{KeeperRefused}
use Rattle.keeper_channel.specs.declared.refused.KeeperRefused.TheVariants.{Full, Store, Damaged, NoMemory}
use Rattle.keeper_state.specs.State.{State, unseen, live, again, Found, Has, Reaches, IsNow, Stores, Answers, StoreRefused}
use Rattle.netflux_core.specs.Crashes.{ChannelLogs, HoldsNow, LeavesHeld, LeavesMore}
use Rattle.pad_text.specs.Digits.{IsDigits}

-- what is held after a call is held by its state
now_has : (finds : Found → Type 0) (state : State) (held suspense : List (List ℕ)) → IsNow state held suspense → Has finds state held suspense
now_has finds unseen held suspense now = absurd now
now_has finds (live list doubtful) held suspense now = now
now_has finds (again list doubtful) held suspense now = now

-- a channel is loaded, or has to be loaded again
abbrev pub IsSeen : State → Type 0
IsSeen unseen = ⊥
IsSeen (live held suspense) = Unit {0}
IsSeen (again held suspense) = Unit {0}

pub seen : (now other : State) → now ≡ other → IsSeen other → now ≡ unseen → ⊥
seen now other is loaded none = subst IsSeen (sym is ∙ none) loaded

pub refused_seen : (now : State) (held suspense added : List (List ℕ)) (why : KeeperRefused) → StoreRefused held suspense added why now → now ≡ unseen → ⊥
refused_seen now held suspense added Full got = seen now (live held suspense) got.1 tt
refused_seen now held suspense added Store (room, inl is) = seen now (again held suspense) is tt
refused_seen now held suspense added Store (room, inr is) = seen now (again held added) is tt
refused_seen now held suspense added (Damaged damage) got = λ none. got
refused_seen now held suspense added (NoMemory memory) (inl is) = seen now (live held suspense) is tt
refused_seen now held suspense added (NoMemory memory) (inr is) = seen now (again held suspense) is tt

-- one that is not loaded after a call was not before
pub stored_was : (finds : Found → Type 0) (loaded : ℕ) (before now : State) (added : List (List ℕ)) (result : Result ℕ KeeperRefused) → Stores finds loaded before added result now
    → now ≡ unseen → before ≡ unseen
stored_was finds loaded before now added (Ok index) got none = absurd (seen now (live (got.1 ++ added) []) got.4.2 tt none)
stored_was finds loaded before now added (Err why) (inl got) none = sym got.1 ∙ none
stored_was finds loaded before now added (Err why) (inr got) none = absurd (refused_seen now got.1 got.2 added why got.4 none)

pub asked_was : {T : Type 0} (finds : Found → Type 0) (loaded : ℕ) (before now : State) (Is : List (List ℕ) → T → Type 0) (result : Result T KeeperRefused) → Answers finds loaded before Is result now
    → now ≡ unseen → before ≡ unseen
asked_was finds loaded before now Is (Ok told) got none = absurd (seen now (live got.1 got.2) got.4.1 tt none)
asked_was finds loaded before now Is (Err why) got none = sym got.1 ∙ none

module _ (logs : ChannelLogs) (old new : Disk) where
  -- what a store says of its channel
  pub leaves_more : (channel : List ℕ) (before now : State) → ((held suspense : List (List ℕ)) → Has (logs.finds channel (reads old)) before held suspense → EachSince old new (λ image.
      IsWithin (logs.lists channel image) held suspense
      ⊎ ((list : List (List ℕ)) × (doubtful : List (List ℕ)) × (Reaches (logs.finds channel (reads old)) before list doubtful ⊎ IsNow now list doubtful) × IsWithin (logs.lists channel image) list doubtful)))
      → LeavesMore logs channel before now old new
  leaves_more channel before now left held suspense has image since = by (left held suspense has image since)
    where
      by : IsWithin (logs.lists channel image) held suspense
          ⊎ ((list : List (List ℕ)) × (doubtful : List (List ℕ)) × (Reaches (logs.finds channel (reads old)) before list doubtful ⊎ IsNow now list doubtful) × IsWithin (logs.lists channel image) list doubtful)
          → IsWithin (logs.lists channel image) held suspense
          ⊎ ((list : List (List ℕ)) × (doubtful : List (List ℕ)) × (Reaches (logs.finds channel (reads old)) before list doubtful ⊎ Has (logs.finds channel (reads old)) now list doubtful)
          × IsWithin (logs.lists channel image) list doubtful)
      by (inl within) = inl within
      by (inr (list, doubtful, inl reached, within)) = inr (list, doubtful, inl reached, within)
      by (inr (list, doubtful, inr is, within)) = inr (list, doubtful, inr (now_has (logs.finds channel (reads old)) now list doubtful is), within)

  -- what is held now: of a channel that is loaded or has to be loaded again, by the law of the keeper; of one that is not, what was held before
  pub holds_now : (channel : List ℕ) (before now : State) → (now ≡ unseen → before ≡ unseen)
      → ((held suspense : List (List ℕ)) → Has (logs.finds channel (reads new)) now held suspense → EachNow new (λ image. IsWithin (logs.lists channel image) held suspense))
      → (now ≡ unseen → LeavesHeld logs channel before old new)
      → HoldsNow logs channel (reads old) now new
  holds_now channel before unseen was law spared held suspense has = λ image is.
      spared refl held suspense (subst (λ (s : State). Has (logs.finds channel (reads old)) s held suspense) (sym (was refl)) has) image (since_now (moment old) new image is)
  holds_now channel before (live list doubtful) was law spared held suspense has = law held suspense has
  holds_now channel before (again list doubtful) was law spared held suspense has = law held suspense has

  -- of every channel what was held, by that of one
  pub each_held : (before : List ℕ → State) (channel : List ℕ) → LeavesHeld logs channel (before channel) old new
      → ((other : List ℕ) → IsDigits 32 other → bytes_eq channel other ≡ false → LeavesHeld logs other (before other) old new)
      → (other : List ℕ) → IsDigits 32 other → LeavesHeld logs other (before other) old new
  each_held before channel mine theirs other digits = by (bytes_eq channel other) refl
    where
      by : (b : Bool) → bytes_eq channel other ≡ b → LeavesHeld logs other (before other) old new
      by true e = subst (λ (o : List ℕ). LeavesHeld logs o (before o) old new) ((bytes_eq-Decides channel other).0 e) mine
      by false e = theirs other digits e
