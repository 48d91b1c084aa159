-- What holds of a keeper's table between calls, over every volume.
use Rattle.std.specs.Prelude.{◌≡◌, ℕ, ◌<◌, ◌≤◌, List, Bool, Some}
use Rattle.log_format.specs.declared.form.Form.{Form}
use Rattle.keeper_channel.specs.declared.slot.Slot.{Slot}
use Rattle.keeper_table.specs.declared.table.Table.{Table}
use Rattle.keeper_table.specs.declared.table.TheConstants.{MOST_CHANNELS}
use Rattle.keeper_state.specs.Slot.{IsSlotFor}
use Rattle.keeper_table.specs.Table.{slot_in, size_of}

-- Each loaded channel has such a slot, and no more channels were loaded so far than a keeper loads at most.
pub record IsKeeper {O G : Type 0} (name_one : O → List ℕ) (form_one : O → Form) (live_one : O → Bool) (count_one : O → ℕ)
    (name_two : G → List ℕ) (form_two : G → Form) (live_two : G → Bool) (count_two : G → ℕ) (table : Table (Slot O G)) : Type 0 where
  pub slots : (channel : List ℕ) (slot : Slot O G) → slot_in table channel ≡ Some slot
      → IsSlotFor name_one form_one live_one count_one name_two form_two live_two count_two channel slot
  pub few : size_of table ≤ MOST_CHANNELS

-- a loaded channel of the table has an entry of this index, by its own count
abbrev pub HasEntry : {O G : Type 0} → Table (Slot O G) → (channel : List ℕ) → (index : ℕ) → Type 0
HasEntry {O} {G} table channel index = (slot : Slot O G) × (slot_in table channel ≡ Some slot) × (index < slot.index.count)
