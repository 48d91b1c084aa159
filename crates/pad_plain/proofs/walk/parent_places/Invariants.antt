use Rattle.std.proofs.Common.{◌≡◌, ℕ, length, take, Option, Some, slice_get}
use Rattle.pad_message.specs.declared.message.Message.{Message}
use Rattle.pad_plain.specs.Inside.Walk.{IsParentPlace}
use Rattle.pad_plain.proofs.walk.parent_places.Given as goal

abbrev pub invariant-loop-message : goal.invariant-loop-message
invariant-loop-message l = record {
  many : length l.parents.items ≡ l.message-index;
  each : (at : ℕ) (message : Message) (found : Option ℕ) → slice_get (take l.count l.messages) at ≡ Some message → slice_get l.parents.items at ≡ Some found → IsParentPlace l.base (take l.count l.messages) message found;
}
