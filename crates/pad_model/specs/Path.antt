-- Paths: lists of messages from a base on, the newest first. `m ∷ p` is the message m on top of the path p, and `[]` is
-- the base alone. So the height of a message on a path is the number of messages up to it, itself included.
use Rattle.std.specs.Prelude.{◌≡◌, ◌≢◌, ⊤, ℕ, ◌+◌, List, [], ◌∷◌, length, Contains, if◌then◌else◌}
use Rattle.pad_text.specs.declared.name.Name.{Name}
use Rattle.pad_patch.specs.Piece.{text_after}
use Rattle.pad_message.specs.declared.message.Message.{Message}
use Rattle.pad_message.specs.Kind.{is_checkpoint}
use Rattle.pad_message.specs.Message.{name_of}
use Rattle.pad_model.specs.declared.base.Base.{Base}
use Rattle.pad_model.specs.Sound.{IsSound, interval_of}

-- the name of the last message of a path; of the empty path the base's
abbrev pub last_name : Base → List Message → Name
last_name base [] = base.name
last_name base (message ∷ path) = name_of message

-- the text after a path
abbrev pub text : Base → List Message → List ℕ
text base [] = base.text
text base (message ∷ path) = text_after message.patch (text base path)

-- the interval in force after a path: that of its last checkpoint; the base's if it has none
abbrev pub interval : Base → List Message → ℕ
interval base [] = base.interval
interval base (message ∷ path) = interval_of message.kind (interval base path)

-- how many messages come after the last checkpoint of a path; all of them if it has none
abbrev pub since_checkpoint : List Message → ℕ
since_checkpoint [] = 0
since_checkpoint (message ∷ path) = if is_checkpoint message.kind then 0 else since_checkpoint path + 1

-- the message was received, has not the base's name, and names the last of the path as its parent
pub record Extends (base : Base) (received : List Message) (message : Message) (path : List Message) : Type 0 where
  pub member : Contains received message
  pub not_base : name_of message ≢ base.name
  pub parent : message.parent ≡ last_name base path

-- each message extends the path before it
abbrev pub IsLinkedPath : Base → List Message → List Message → Type 0
IsLinkedPath base received [] = ⊤
IsLinkedPath base received (message ∷ path) = Extends base received message path × IsLinkedPath base received path

-- the message is sound on top of the path
abbrev pub IsSoundOn : Base → List Message → Message → Type 0
IsSoundOn base path message = IsSound message (since_checkpoint path + 1) (interval base path) (text base path)

-- each message is sound on the path before it
abbrev pub EachSound : Base → List Message → Type 0
EachSound base [] = ⊤
EachSound base (message ∷ path) = IsSoundOn base path message × EachSound base path

-- a path of the messages received, from the base on
abbrev pub IsPath : Base → List Message → List Message → Type 0
IsPath base received path = IsLinkedPath base received path × EachSound base path

-- a linked path ends in the message
abbrev pub IsLinked : Base → List Message → Message → Type 0
IsLinked base received message = (path : List Message) × IsLinkedPath base received (message ∷ path)

-- a linked path of this length ends in the message
abbrev pub IsLinkedAt : Base → List Message → Message → ℕ → Type 0
IsLinkedAt base received message height = (path : List Message) × IsLinkedPath base received (message ∷ path) × (height ≡ length (message ∷ path))

-- two different messages have different names
abbrev pub NamesDiffer : List Message → Type 0
NamesDiffer received = (one other : Message) → Contains received one → Contains received other → name_of one ≡ name_of other → one ≡ other
