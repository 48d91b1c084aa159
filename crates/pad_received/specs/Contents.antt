-- What contents read as, one a line, and how many names a chain receives.
use Rattle.std.specs.Prelude.{◌≡◌, ◌≢◌, ℕ, ◌≤◌, List, length, Option, None, Some, is_none, count_by, Contains}
use Rattle.std.specs.Str.{IsUtf8}
use Rattle.std.specs.List.{AllZip, filter_map}
use Rattle.pad_text.specs.declared.name.Name.{Name}
use Rattle.pad_message.specs.declared.message.Message.{Message}
use Rattle.pad_message.specs.Message.{name_of}
use Rattle.pad_message.specs.Content.{Reads}
use Rattle.pad_graph.specs.declared.graph.TheConstants.{MOST_NAMES}
use Rattle.pad_model.specs.Base.{first_base}
use Rattle.pad_list.specs.Number.{NoRepeat, IsNumberOf}
use Rattle.pad_model.specs.Count.{IsKnown}

-- the most different names that are received, the base's excepted
abbrev pub most_names : ℕ
most_names = MOST_NAMES

-- the line spells a message: it is UTF-8, and reads as a content
abbrev pub LineSpells : List ℕ → Message → Type 0
LineSpells line message = IsUtf8 line × Reads line message

-- what a line reads as: a message, or none where it spells none
abbrev pub ReadsAs : List ℕ → Option Message → Type 0
ReadsAs line None = (message : Message) → ¬ (LineSpells line message)
ReadsAs line (Some message) = LineSpells line message

-- the lines read as these messages, in order, and so many of them as none
pub record AreReadAs (lines : List (List ℕ)) (messages : List Message) (unreadable : ℕ) : Type 0 where
  pub outcomes : List (Option Message)
  pub each : AllZip ReadsAs lines outcomes
  pub read : messages ≡ filter_map (λ outcome. outcome) outcomes
  pub others : unreadable ≡ count_by is_none outcomes

-- at most `most_names` different names are known, the base's not counted
abbrev pub HasFewNames : List Message → Type 0
HasFewNames messages = (names : List Name) → NoRepeat names → ((name : Name) → Contains names name → IsKnown first_base messages name) → length names ≤ most_names

-- the name of the message would be one too many
pub record IsOneTooMany (messages : List Message) (message : Message) : Type 0 where
  pub full : IsNumberOf (IsKnown first_base messages) most_names
  pub not_base : name_of message ≢ first_base.name
  pub new : (known : Message) → Contains messages known → name_of known ≢ name_of message
