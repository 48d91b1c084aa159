-- What a slot's logs and those of a checked channel are, by what they are more narrowly: what the proofs of the layers above cite.
use Rattle.std.proofs.Common.{ℕ}
use Rattle.keeper_channel.specs.Checked.{IsCheckedOf}
use Rattle.keeper_channel.specs.Logs.{IsLogsOf}
use Rattle.keeper_channel.specs.Slot.{IsSlotOf}
use Rattle.keeper_channel.specs.declared.checked.CheckedChannel.{CheckedChannel}
use Rattle.keeper_channel.specs.declared.logs.Logs.{Logs}
use Rattle.keeper_channel.specs.declared.logs.Logs.TheVariants.{Unmoved, Moved}
use Rattle.keeper_channel.specs.declared.slot.Slot.{Slot}

pub logs_weaker : {O G : Type 0} (is_one also_one : O → Type 0) (is_two also_two : G → Type 0) (logs : Logs O G)
    → ((log : O) → is_one log → also_one log) → ((log : G) → is_two log → also_two log) → IsLogsOf is_one is_two logs → IsLogsOf also_one also_two logs
logs_weaker is_one also_one is_two also_two (Unmoved one two) by_one by_two is = (by_one one is.0, by_two two is.1)
logs_weaker is_one also_one is_two also_two (Moved log marker) by_one by_two is = by_two log is

pub slot_weaker : {O G : Type 0} (is_one also_one : O → Type 0) (is_two also_two : G → Type 0) (count_one : O → ℕ) (count_two : G → ℕ) (slot : Slot O G)
    → ((log : O) → is_one log → also_one log) → ((log : G) → is_two log → also_two log) → IsSlotOf is_one is_two count_one count_two slot → IsSlotOf also_one also_two count_one count_two slot
slot_weaker is_one also_one is_two also_two count_one count_two slot by_one by_two is = record {
  made = logs_weaker is_one also_one is_two also_two slot.logs by_one by_two is.made;
  counted = is.counted;
  indexed = is.indexed;
  few = is.few;
}

pub checked_weaker : {O G : Type 0} (is_one also_one : O → Type 0) (is_two also_two : G → Type 0) (count_one : O → ℕ) (count_two : G → ℕ) (channel : CheckedChannel O G)
    → ((log : O) → is_one log → also_one log) → ((log : G) → is_two log → also_two log) → IsCheckedOf is_one is_two count_one count_two channel → IsCheckedOf also_one also_two count_one count_two channel
checked_weaker is_one also_one is_two also_two count_one count_two channel by_one by_two is = record {
  made = logs_weaker is_one also_one is_two also_two channel.logs by_one by_two is.made;
  counted = is.counted;
}
