-- Whether a call comes to a channel's list.
use Rattle.std.proofs.Common.{◌≡◌, ◌∙◌, ◌↔◌, inl, inr, ◌≤◌, ℕ, Bool, true, false, IsTrue, Option, None, sym, arith}
use Rattle.std.proofs.lemmas.Bool.Decides.{leb_tells}
use Rattle.keeper_channel.specs.Slot.{NamesIt}
use Rattle.keeper_channel.specs.declared.refused.KeeperRefused.{KeeperRefused}
use Rattle.keeper_channel.specs.declared.refused.KeeperRefused.TheVariants.{Full, Store, Damaged, NoMemory}
use Rattle.keeper_state.specs.State.{State, unseen, live, again, Found, damages, HasPlace, NeedsLoad, NotReached}
use Rattle.keeper_table.specs.Table.{joined}
use Rattle.keeper_table.specs.declared.table.TheConstants.{MOST_CHANNELS}
use Rattle.keeper_log.proofs.Standing.{Fits, not_both}

-- there is a place where the table is not full
pub place : {S : Type 0} (found : Option (Option S)) (state : State) (full : Bool) (size : ℕ) → Fits found state → full ≡ false
    → (IsTrue full ↔ ((MOST_CHANNELS ≤ size) × (found ≡ None))) → HasPlace size state
place found unseen full size is free exactly = elim (leb_tells MOST_CHANNELS size) [
  | inl many ↦ let e : true ≡ false = sym (exactly.1 (many.1, is)) ∙ free in absurd (cc)
  | inr few ↦ few.1
]
place found (live held suspense) full size is free exactly = tt
place found (again held suspense) full size is free exactly = tt

-- and none where it is
pub no_place : {S : Type 0} (found : Option (Option S)) (state : State) (size : ℕ) → Fits found state → MOST_CHANNELS ≤ size → found ≡ None → HasPlace size state → ⊥
no_place found unseen size is many none few = omega (arith, many, few)
no_place {S} found (live held suspense) size is many none few = let e = sym is.1 ∙ none in absurd (cc)
no_place {S} found (again held suspense) size is many none few = let e = sym is ∙ none in absurd (cc)

-- a channel without a slot needs a load
pub needs : {S : Type 0} (found : Option (Option S)) (state : State) → Fits found state → joined found ≡ None → NeedsLoad state
needs found unseen is none = tt
needs found (live held suspense) is none = not_both found is.0 none is.1
needs found (again held suspense) is none = tt

-- the refusal of a load
pub not_reached : (finds : Found → Type 0) (size : ℕ) (state : State) (refused : KeeperRefused) → HasPlace size state → NeedsLoad state
    → NamesIt (λ damage. finds (damages damage)) refused → NotReached finds size state refused
not_reached finds size state Full place needs names = absurd names
not_reached finds size state Store place needs names = (place, needs)
not_reached finds size state (Damaged damage) place needs names = (place, needs, names)
not_reached finds size state (NoMemory error) place needs names = tt
