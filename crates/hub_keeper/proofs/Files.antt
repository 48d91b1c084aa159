-- What a load finds in files follows from the channel's own files.
use Rattle.std.proofs.Common.{◌≡◌, ◌∙◌, ◌⊎◌, inl, inr, ℕ, Bool, true, false, List, Option, Some, None, MatchBool, sym, ap}
use Rattle.log_format.specs.declared.damage.Damage.{Damage}
use Rattle.keeper_channel.specs.Chan.{has_marker, doubt_if, unmarked, moved, IsChan, IsList}
use Rattle.keeper_channel.specs.Logs.{IsFound, IsDamaged}
use Rattle.keeper_channel.specs.Slot.{HasDamage}

chan_on : (one other : List (List ℕ) → Type 0) (marked : Bool) (two list : List (List ℕ)) → ((old : List (List ℕ)) → one old → other old)
    → MatchBool marked (list ≡ unmarked two) ((old : List (List ℕ)) × one old × (list ≡ moved old))
    → MatchBool marked (list ≡ unmarked two) ((old : List (List ℕ)) × other old × (list ≡ moved old))
chan_on one other true two list by is = is
chan_on one other false two list by is = (is.0, by is.0 is.1, is.2)

-- files that open as the same, with the same doubt and the same damage
module _ (opens_one opens_two : (List ℕ → List ℕ) → List (List ℕ) → Type 0) (doubt : (List ℕ → List ℕ) → List (List ℕ)) (damage_one damage_two : (List ℕ → List ℕ) → Option Damage)
    (one other : List ℕ → List ℕ) (by_one : (list : List (List ℕ)) → opens_one one list → opens_one other list) (by_two : (list : List (List ℕ)) → opens_two one list → opens_two other list) where
  pub found_on : (held suspense : List (List ℕ)) → doubt one ≡ doubt other → IsFound opens_one opens_two doubt one held suspense → IsFound opens_one opens_two doubt other held suspense
  found_on held suspense same found = record {
    two = found.two;
    opened = by_two found.two found.opened;
    is = chan_on (opens_one one) (opens_one other) (has_marker found.two) found.two held by_one found.is;
    doubtful = found.doubtful ∙ ap (doubt_if (has_marker found.two)) same;
  }

  list_on : (list : List (List ℕ)) → IsList opens_one opens_two one list → IsList opens_one opens_two other list
  list_on list is = (is.0, by_two is.0 is.1, chan_on (opens_one one) (opens_one other) (has_marker is.0) is.0 list by_one is.2)

  pub damaged_on : (damage : Damage) → damage_one one ≡ damage_one other → damage_two one ≡ damage_two other
      → IsDamaged damage_one damage_two opens_two one damage → IsDamaged damage_one damage_two opens_two other damage
  damaged_on damage same_one same_two (inl is) = inl (sym same_two ∙ is)
  damaged_on damage same_one same_two (inr is) = inr (is.0, sym same_two ∙ is.1, by_two is.0 is.2, is.3, sym same_one ∙ is.4)

  pub has_on : (damage : Damage) → damage_one one ≡ damage_one other → damage_two one ≡ damage_two other
      → ((found : Damage) → IsDamaged damage_one damage_two opens_two other found → IsDamaged damage_one damage_two opens_two one found)
      → HasDamage opens_one opens_two damage_one damage_two one damage → HasDamage opens_one opens_two damage_one damage_two other damage
  has_on damage same_one same_two back (inl is) = inl (damaged_on damage same_one same_two is)
  has_on damage same_one same_two back (inr is) = inr ((λ found other_is. is.0 found (back found other_is)), is.1, is.2, list_on is.1 is.3, is.4, is.5)
