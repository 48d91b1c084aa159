-- The JSON values (RFC 8259) that spell a message.
use Rattle.std.specs.Prelude.{◌≡◌, ℕ, ◌⊎◌, List, [], ◌∷◌, ◌++◌, map, ◌==◌, if◌then◌else◌}
use Rattle.serde_json.specs.Data.{Data, string}
use Rattle.pad_json.specs.Data.{array_of, whole}
use Rattle.pad_json.specs.Name.{name_data}
use Rattle.pad_text.specs.Text.{utf8}
use Rattle.pad_patch.specs.declared.operation.Operation.{Operation}
use Rattle.pad_patch.specs.declared.patch.Patch.{Patch}
use Rattle.pad_message.specs.declared.kind.Kind.{Kind}
use Rattle.pad_message.specs.declared.kind.Kind.TheVariants as kind
use Rattle.pad_message.specs.declared.kind.TheConstants.{USUAL_INTERVAL}
use Rattle.pad_message.specs.declared.message.Message.{Message}

-- `[offset, remove, insert]`
abbrev pub operation_data : Operation → Data
operation_data operation = array_of (whole operation.offset ∷ whole operation.remove ∷ string (utf8 operation.insert) ∷ [])

-- the operations, and then the hash of the text before
abbrev pub patch_data : Patch → Data
patch_data patch = array_of (map operation_data patch.ops ++ name_data patch.before ∷ [])

-- the number of a kind
abbrev pub kind_number : Kind → ℕ
kind_number kind.Patch = 2
kind_number (kind.Checkpoint interval) = 4

-- `[kind, patch, parent]`, and what comes after
abbrev pub data_with : Message → List Data → Data
data_with message after = array_of (whole (kind_number message.kind) ∷ patch_data message.patch ∷ name_data message.parent ∷ after)

-- what may come after the parent: nothing with a patch, and with a checkpoint its interval, or nothing where that is the
-- usual one
abbrev pub MayFollow : Kind → List Data → Type 0
MayFollow kind.Patch after = after ≡ []
MayFollow (kind.Checkpoint interval) after = (after ≡ whole interval ∷ []) ⊎ ((interval ≡ USUAL_INTERVAL) × (after ≡ []))

-- the value spells the message: it is `[kind, patch, parent]` or `[kind, patch, parent, interval]`
abbrev pub SpellsMessage : Data → Message → Type 0
SpellsMessage value message = (after : List Data) × MayFollow message.kind after × (value ≡ data_with message after)

-- the least of what may come after the parent: the interval of a checkpoint where that is not the usual one
abbrev pub interval_data : Kind → List Data
interval_data kind.Patch = []
interval_data (kind.Checkpoint interval) = if interval == USUAL_INTERVAL then [] else whole interval ∷ []

-- the least value that spells the message
abbrev pub message_data : Message → Data
message_data message = data_with message (interval_data message.kind)
