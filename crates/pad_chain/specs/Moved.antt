-- How the chosen path changes, and how it comes from another path.
use Rattle.std.specs.Prelude.{◌≡◌, List, [], ◌∷◌, ◌++◌, map, reverse, Contains}
use Rattle.pad_text.specs.declared.name.Name.{Name}
use Rattle.pad_message.specs.declared.message.Message.{Message}
use Rattle.pad_message.specs.Message.{name_of}
use Rattle.pad_patch.specs.Inverse.{inverse}
use Rattle.pad_model.specs.declared.base.Base.{Base}
use Rattle.pad_model.specs.Path.{text, last_name, IsPath}
use Rattle.pad_model.specs.Choice.{RunsThrough}
use Rattle.pad_branch.specs.declared.moved.Move.{Move}
use Rattle.pad_branch.specs.Move.{move_on}
use Rattle.pad_chain.specs.declared.moved.Moved.{Moved}

-- the moves that take these messages back, which stand on a path: the newest first, each with the inverse of its patch
abbrev pub moves_back : Base → List Message → List Message → List Move
moves_back base common [] = []
moves_back base common (message ∷ left) =
    record { name = name_of message; kind = message.kind; patch = inverse message.patch (text base (left ++ common)) } ∷ moves_back base common left

-- the moves that bring these messages on: the oldest first, each with its patch
abbrev pub moves_on : List Message → List Move
moves_on joined = map move_on (reverse joined)

-- One path became another: the messages of `left` left what both have in common, and those of `joined` came onto it.
pub record IsMoved (base : Base) (old new : List Message) (moved : Moved) : Type 0 where
  pub common : List Message
  pub left : List Message
  pub joined : List Message
  pub was : old ≡ left ++ common
  pub is : new ≡ joined ++ common
  pub apart : (message : Message) → Contains left message → ¬ (Contains joined message)
  pub back : moved.reverted ≡ moves_back base common left
  pub on : moved.applied ≡ moves_on joined

-- a path through the root, which ends in the message with this name, or at the base of this name
pub record EndsIn (base : Base) (received root path : List Message) (name : Name) : Type 0 where
  pub is_path : IsPath base received path
  pub through : RunsThrough root path
  pub last : last_name base path ≡ name
