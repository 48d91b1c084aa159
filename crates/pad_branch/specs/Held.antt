-- The messages that are held, by name.
use Rattle.std.specs.Prelude.{◌≡◌, List, ◌∷◌, Bool, false, Option, Some, None, option_map}
use Rattle.std.specs.List.{filter_map}
use Rattle.pad_text.specs.declared.name.Name.{Name}
use Rattle.pad_message.specs.declared.message.Message.{Message}
use Rattle.pad_message.specs.Message.{name_of}
use Rattle.pad_message.specs.Kind.{HasInterval}
use Rattle.pad_model.specs.declared.base.Base.{Base}
use Rattle.pad_model.specs.Path.{IsLinkedPath}
use Rattle.pad_model.specs.Choice.{RunsThrough}
use Rattle.pad_branch.specs.declared.held.Held.{Held}

-- what is held at a name: a message of that name, with an interval that it may have
pub record IsHeldAs (name : Name) (held : Held) : Type 0 where
  pub interval : HasInterval held.message.kind
  pub named : name_of held.message ≡ name

-- each message above the root that is linked through it is held
abbrev pub HoldsKept : Base → List Message → List Message → (Name → Option Held) → Type 0
HoldsKept base received root table =
    (message : Message) (path : List Message) → IsLinkedPath base received (message ∷ path) → RunsThrough root path → (held : Held) × (table (name_of message) ≡ Some held) × (held.message ≡ message)

-- the message that is held at a name
abbrev pub message_at : (Name → Option Held) → Name → Option Message
message_at table name = option_map (λ (held : Held). held.message) (table name)

-- the messages that are held at these names
abbrev pub messages_at : (Name → Option Held) → List Name → List Message
messages_at table names = filter_map (message_at table) names

-- the mark of what is held at a name; there is none where nothing is held
abbrev pub mark_of : Option Held → Bool
mark_of None = false
mark_of (Some held) = held.pathless

-- the marks
abbrev pub marks : (Name → Option Held) → Name → Bool
marks table name = mark_of (table name)
