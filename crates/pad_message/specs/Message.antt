-- Which messages there are, the compact text of a message, and its name.
use Rattle.std.specs.Prelude.{◌≡◌, ℕ, ◌^◌, ◌<◌, List, length, All}
use Rattle.serde_json.specs.Written.{compact_text}
use Rattle.pad_json.specs.Name.{IsName}
use Rattle.pad_text.specs.Text.{IsText}
use Rattle.pad_text.specs.declared.name.Name.{Name}
use Rattle.pad_text.specs.Name.{name_of_bytes}
use Rattle.pad_patch.specs.declared.operation.Operation.{Operation}
use Rattle.pad_patch.specs.declared.patch.Patch.{Patch}
use Rattle.pad_message.specs.declared.message.Message.{Message}
use Rattle.pad_message.specs.Data.{message_data}

-- the numbers of the operation have 32 bits, and what it inserts is a text
pub record IsOperation (operation : Operation) : Type 0 where
  pub offset : operation.offset < 2 ^ 32
  pub remove : operation.remove < 2 ^ 32
  pub insert : IsText operation.insert

-- the patch is made of operations and a name
pub record IsPatch (patch : Patch) : Type 0 where
  pub operations : All IsOperation patch.ops
  pub before : IsName patch.before

-- the message is one that a value of the type can be
pub record IsMessage (message : Message) : Type 0 where
  pub patch : IsPatch message.patch
  pub parent : IsName message.parent

-- the text of a message without whitespace; the interval of a checkpoint stands in it where it is not the usual one
unfoldable pub compact : Message → List ℕ
compact message = compact_text (message_data message)

-- the name of a message: the SHA-256 of its compact text, however a content spelled it
unfoldable pub name_of : Message → Name
name_of message = name_of_bytes (compact message)
