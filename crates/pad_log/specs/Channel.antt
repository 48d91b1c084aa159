-- The list of a channel and its damage, by its two files: by what a file of a form and a name opens as, and by what damages it.
use Rattle.std.specs.Prelude.{ℕ, List, Option}
use Rattle.log_format.specs.declared.damage.Damage.{Damage}
use Rattle.log_format.specs.declared.form.Form.{Form}
use Rattle.log_format.specs.declared.form.Form.TheVariants.{One, Two}
use Rattle.keeper_channel.specs.Chan.{IsList}
use Rattle.keeper_channel.specs.Slot.{HasDamage}
use Rattle.keeper_table.specs.Files.{file_one, file_two}

-- the channel has this damage in these files
abbrev pub IsDamageOf : (opens_one opens_two : Form → List ℕ → (List ℕ → List ℕ) → List (List ℕ) → Type 0) (damage_one damage_two : Form → List ℕ → (List ℕ → List ℕ) → Option Damage)
    → (channel : List ℕ) → (files : List ℕ → List ℕ) → Damage → Type 0
IsDamageOf opens_one opens_two damage_one damage_two channel files damage = HasDamage (opens_one One (file_one channel)) (opens_two Two (file_two channel))
    (damage_one One (file_one channel)) (damage_two Two (file_two channel)) files damage

-- the channel has no damage in these files, and this list
abbrev pub IsListOf : (opens_one opens_two : Form → List ℕ → (List ℕ → List ℕ) → List (List ℕ) → Type 0) (damage_one damage_two : Form → List ℕ → (List ℕ → List ℕ) → Option Damage)
    → (channel : List ℕ) → (files : List ℕ → List ℕ) → List (List ℕ) → Type 0
IsListOf opens_one opens_two damage_one damage_two channel files list = IsList (opens_one One (file_one channel)) (opens_two Two (file_two channel)) files list
    × ((damage : Damage) → IsDamageOf opens_one opens_two damage_one damage_two channel files damage → ⊥)
