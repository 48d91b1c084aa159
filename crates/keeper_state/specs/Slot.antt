-- The slot of a loaded channel, over every volume.
use Rattle.std.specs.Prelude.{◌≡◌, ℕ, List, Bool, IsTrue}
use Rattle.log_format.specs.declared.form.Form.{Form}
use Rattle.log_format.specs.declared.form.Form.TheVariants.{One, Two}
use Rattle.keeper_channel.specs.Slot.{IsSlotOf}
use Rattle.keeper_channel.specs.declared.slot.Slot.{Slot}
use Rattle.keeper_table.specs.Files.{file_one, file_two}

-- a live log of this name and form
abbrev pub IsLogOf : {L : Type 0} (name_of : L → List ℕ) (form_of : L → Form) (live : L → Bool) → (name : List ℕ) → Form → L → Type 0
IsLogOf name_of form_of live name form log = (name_of log ≡ name) × (form_of log ≡ form) × IsTrue (live log)

-- a slot of a channel: its logs are live and have the names of the channel's files
abbrev pub IsSlotFor : {O G : Type 0} (name_one : O → List ℕ) (form_one : O → Form) (live_one : O → Bool) (count_one : O → ℕ)
    (name_two : G → List ℕ) (form_two : G → Form) (live_two : G → Bool) (count_two : G → ℕ) → (channel : List ℕ) → Slot O G → Type 0
IsSlotFor name_one form_one live_one count_one name_two form_two live_two count_two channel slot =
    IsSlotOf (IsLogOf name_one form_one live_one (file_one channel) One) (IsLogOf name_two form_two live_two (file_two channel) Two) count_one count_two slot
