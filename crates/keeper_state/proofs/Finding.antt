-- What a load finds follows from the files that it reads.
use Rattle.std.proofs.Common.{◌≡◌, ◌∙◌, ◌⊎◌, inl, inr, Bool, true, false, ℕ, List, Option, Some, None, refl, sym, ap, subst, bytes_eq, if◌then◌else◌, MatchBool}
use Rattle.std.proofs.lemmas.Slice.Eq.{bytes_eq-Decides}
use Rattle.disk_volume.specs.Disk.{Act, File, Disk, did, synced, after, file_at, reads}
use Rattle.disk_volume.specs.Moments.{OnlySyncs, no_sync, one_sync}
use Rattle.log_format.specs.declared.damage.Damage.{Damage}
use Rattle.log_format.specs.declared.form.Form.TheVariants.{One, Two}
use Rattle.keeper_channel.specs.Chan.{has_marker, unmarked, moved, doubt_if, IsChan, IsList}
use Rattle.keeper_channel.specs.Logs.{IsFound, IsDamaged}
use Rattle.keeper_channel.specs.Slot.{HasDamage}
use Rattle.keeper_table.specs.Files.{file_one, file_two}
use Rattle.keeper_state.specs.State.{Found, lists, damages, Opens, Doubts, Damages, Finds}

-- to the logs of a channel the later files are as these
pub record Alike (opens_one opens_two : (List ℕ → List ℕ) → List (List ℕ) → Type 0) (doubt : (List ℕ → List ℕ) → List (List ℕ))
    (damage_one damage_two : (List ℕ → List ℕ) → Option Damage) (old new : List ℕ → List ℕ) : Type 0 where
  pub one_on : (list : List (List ℕ)) → opens_one old list → opens_one new list
  pub one_back : (list : List (List ℕ)) → opens_one new list → opens_one old list
  pub two_on : (list : List (List ℕ)) → opens_two old list → opens_two new list
  pub two_back : (list : List (List ℕ)) → opens_two new list → opens_two old list
  pub doubts : doubt old ≡ doubt new
  pub damages_one : damage_one old ≡ damage_one new
  pub damages_two : damage_two old ≡ damage_two new

chan_by : (one other : List (List ℕ) → Type 0) (marked : Bool) (kept : Type 0) (list : List (List ℕ)) → ((old : List (List ℕ)) → one old → other old)
    → MatchBool marked kept ((old : List (List ℕ)) × one old × (list ≡ moved old)) → MatchBool marked kept ((old : List (List ℕ)) × other old × (list ≡ moved old))
chan_by one other true kept list by is = is
chan_by one other false kept list by is = (is.0, by is.0 is.1, is.2)

list_by : (opens_one opens_two : (List ℕ → List ℕ) → List (List ℕ) → Type 0) (old new : List ℕ → List ℕ) (list : List (List ℕ))
    → ((l : List (List ℕ)) → opens_one old l → opens_one new l) → ((l : List (List ℕ)) → opens_two old l → opens_two new l)
    → IsList opens_one opens_two old list → IsList opens_one opens_two new list
list_by opens_one opens_two old new list by_one by_two is =
    (is.0, by_two is.0 is.1, chan_by (opens_one old) (opens_one new) (has_marker is.0) (list ≡ unmarked is.0) list by_one is.2)

damaged_by : (opens_two : (List ℕ → List ℕ) → List (List ℕ) → Type 0) (damage_one damage_two : (List ℕ → List ℕ) → Option Damage) (old new : List ℕ → List ℕ) (damage : Damage)
    → ((l : List (List ℕ)) → opens_two old l → opens_two new l) → damage_one old ≡ damage_one new → damage_two old ≡ damage_two new
    → IsDamaged damage_one damage_two opens_two old damage → IsDamaged damage_one damage_two opens_two new damage
damaged_by opens_two damage_one damage_two old new damage by_two same_one same_two (inl is) = inl (sym same_two ∙ is)
damaged_by opens_two damage_one damage_two old new damage by_two same_one same_two (inr is) =
    inr (is.0, sym same_two ∙ is.1, by_two is.0 is.2, is.3, sym same_one ∙ is.4)

-- they have the same damage
damage_on : (opens_one opens_two : (List ℕ → List ℕ) → List (List ℕ) → Type 0) (doubt : (List ℕ → List ℕ) → List (List ℕ))
    (damage_one damage_two : (List ℕ → List ℕ) → Option Damage) (old new : List ℕ → List ℕ) (damage : Damage) → Alike opens_one opens_two doubt damage_one damage_two old new
    → HasDamage opens_one opens_two damage_one damage_two old damage → HasDamage opens_one opens_two damage_one damage_two new damage
damage_on opens_one opens_two doubt damage_one damage_two old new damage alike (inl is) =
    inl (damaged_by opens_two damage_one damage_two old new damage alike.two_on alike.damages_one alike.damages_two is)
damage_on opens_one opens_two doubt damage_one damage_two old new damage alike (inr is) = inr (
  λ found other. is.0 found (damaged_by opens_two damage_one damage_two new old found alike.two_back (sym alike.damages_one) (sym alike.damages_two) other),
  is.1,
  is.2,
  list_by opens_one opens_two old new is.1 alike.one_on alike.two_on is.3,
  is.4,
  is.5,
)

back : (opens_one opens_two : (List ℕ → List ℕ) → List (List ℕ) → Type 0) (doubt : (List ℕ → List ℕ) → List (List ℕ))
    (damage_one damage_two : (List ℕ → List ℕ) → Option Damage) (old new : List ℕ → List ℕ) → Alike opens_one opens_two doubt damage_one damage_two old new
    → Alike opens_one opens_two doubt damage_one damage_two new old
back opens_one opens_two doubt damage_one damage_two old new alike = record {
  one_on = alike.one_back;
  one_back = alike.one_on;
  two_on = alike.two_back;
  two_back = alike.two_on;
  doubts = sym alike.doubts;
  damages_one = sym alike.damages_one;
  damages_two = sym alike.damages_two;
}

-- a load of them finds the same
pub finds_on : (opens_one opens_two : Opens) (doubt : Doubts) (damage_one damage_two : Damages) (channel : List ℕ) (old new : List ℕ → List ℕ) (found : Found)
    → Alike (opens_one One (file_one channel)) (opens_two Two (file_two channel)) (doubt Two (file_two channel)) (damage_one One (file_one channel)) (damage_two Two (file_two channel)) old new
    → Finds opens_one opens_two doubt damage_one damage_two channel old found → Finds opens_one opens_two doubt damage_one damage_two channel new found
finds_on opens_one opens_two doubt damage_one damage_two channel old new (lists held suspense) alike finds = (
  record {
    two = finds.0.two;
    opened = alike.two_on finds.0.two finds.0.opened;
    is = chan_by (opens_one One (file_one channel) old) (opens_one One (file_one channel) new) (has_marker finds.0.two) (held ≡ unmarked finds.0.two) held alike.one_on finds.0.is;
    doubtful = finds.0.doubtful ∙ ap (doubt_if (has_marker finds.0.two)) alike.doubts;
  },
  λ damage is. finds.1 damage (damage_on (opens_one One (file_one channel)) (opens_two Two (file_two channel)) (doubt Two (file_two channel))
      (damage_one One (file_one channel)) (damage_two Two (file_two channel)) new old damage
      (back (opens_one One (file_one channel)) (opens_two Two (file_two channel)) (doubt Two (file_two channel)) (damage_one One (file_one channel)) (damage_two Two (file_two channel)) old new alike) is),
)
finds_on opens_one opens_two doubt damage_one damage_two channel old new (damages damage) alike finds =
    damage_on (opens_one One (file_one channel)) (opens_two Two (file_two channel)) (doubt Two (file_two channel))
    (damage_one One (file_one channel)) (damage_two Two (file_two channel)) old new damage alike finds

one_sync_reads : (file : File) (here : Bool) → (if here then after synced file else file).now ≡ file.now
one_sync_reads file true = refl
one_sync_reads file false = refl

-- syncs leave what a read gives
pub syncs_read : {own : List ℕ → Type 0} {old : Disk} (new : Disk) (name : List ℕ) → OnlySyncs own old new → reads old name ≡ reads new name
syncs_read new name no_sync = refl
syncs_read {own} {old} new name (one_sync {name = file} {new = mid} mine syncs) =
    syncs_read mid name syncs ∙ sym (one_sync_reads (file_at mid name) (bytes_eq file name))
