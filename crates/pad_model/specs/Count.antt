-- What the counts of a report count.
use Rattle.std.specs.Prelude.{◌≡◌, ◌≢◌, ℕ, ◌+◌, List, ◌∷◌, Contains}
use Rattle.pad_text.specs.declared.name.Name.{Name}
use Rattle.pad_message.specs.declared.message.Message.{Message}
use Rattle.pad_message.specs.Message.{name_of}
use Rattle.pad_model.specs.declared.base.Base.{Base}
use Rattle.pad_model.specs.Path.{IsLinkedPath, IsLinked}
use Rattle.pad_list.specs.Number.{IsNumberOf}
use Rattle.pad_model.specs.Choice.{RunsThrough}

-- a message received has this name, which is not the base's
abbrev pub IsKnown : Base → List Message → Name → Type 0
IsKnown base received name = (message : Message) × Contains received message × (name_of message ≡ name) × (name ≢ base.name)

-- the message was received, has not the base's name, and is not linked
abbrev pub IsWaiting : Base → List Message → Message → Type 0
IsWaiting base received message = Contains received message × (name_of message ≢ base.name) × ¬ (IsLinked base received message)

-- the message's linked path runs through the root, and ends after it
abbrev pub IsKept : Base → List Message → List Message → Message → Type 0
IsKept base received root message = (path : List Message) × IsLinkedPath base received (message ∷ path) × RunsThrough root path

-- how many names are known, how many messages wait, and how many are kept: those linked through the root, and the root
pub record AreCounts (base : Base) (received root : List Message) (known waiting kept : ℕ) : Type 0 where
  pub known_names : IsNumberOf (IsKnown base received) known
  pub waiting_messages : IsNumberOf (IsWaiting base received) waiting
  pub above_root : ℕ
  pub kept_messages : IsNumberOf (IsKept base received root) above_root
  pub with_root : kept ≡ above_root + 1
