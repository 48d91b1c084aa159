-- What a refused load names, and that a list of entries has no first payload that holds none.
use Rattle.std.proofs.Common.{◌≡◌, ℕ, List, take, Some, Err, IsErrOf, refl}
use Rattle.std.specs.Prelude.{slice_get}
use Rattle.log_format.specs.declared.damage.Damage.{Damage}
use Rattle.log_format.specs.declared.damage.Damage.TheVariants.{Entry}
use Rattle.gated_log.specs.declared.refused.LoadRefused.{LoadRefused}
use Rattle.gated_log.specs.declared.refused.LoadRefused.TheVariants.{Store, Damaged, NoMemory}
use Rattle.keeper_entry.specs.Entry.{IsEntry}
use Rattle.keeper_channel.specs.Entries.{AreEntries, IsFirstOther}
use Rattle.keeper_channel.specs.Logs.{NamesDamage}
use Rattle.keeper_channel.proofs.Chans.{entry_at}

-- a refusal that names such a damage names such another
pub names_weaker : (P Q : Damage → Type 0) (refused : LoadRefused) → ((damage : Damage) → P damage → Q damage) → NamesDamage P refused → NamesDamage Q refused
names_weaker P Q Store by names = tt
names_weaker P Q (Damaged damage) by names = by damage names
names_weaker P Q (NoMemory error) by names = tt

-- a refusal that names the payload of a place behind entries names the first that holds none
pub names_other : {T : Type 0} (refused : LoadRefused) (held : List (List ℕ)) (place : ℕ) → AreEntries (take place held)
    → ((damage : Damage) → IsErrOf {T = T} (Err refused) (Damaged damage) → (payload : List ℕ) × (slice_get held place ≡ Some payload) × (damage ≡ Entry place) × (IsEntry payload → ⊥))
    → NamesDamage (λ damage. (index : ℕ) × (damage ≡ Entry index) × IsFirstOther held index) refused
names_other Store held place before found = tt
names_other (NoMemory error) held place before found = tt
names_other (Damaged damage) held place before found =
    let other = found damage refl in
    (place, other.2, record { before = before; payload = other.0; got = other.1; other = other.3 })

-- in a list of entries there is none that holds no entry
pub all_entries : (list : List (List ℕ)) (index : ℕ) → AreEntries list → IsFirstOther list index → ⊥
all_entries list index all first = first.other (entry_at list index first.payload all first.got)
