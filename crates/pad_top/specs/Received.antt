-- What is received of the lines of an input.
use Rattle.std.specs.Prelude.{◌≡◌, ℕ, List, ◌∷◌, ◌++◌}
use Rattle.pad_message.specs.declared.message.Message.{Message}
use Rattle.pad_received.specs.Contents.{LineSpells, AreReadAs, HasFewNames, IsOneTooMany}

-- the lines read as these messages and this many others, and their names are no more than a replay takes
pub record IsTaken (lines : List (List ℕ)) (messages : List Message) (unreadable : ℕ) : Type 0 where
  pub received : AreReadAs lines messages unreadable
  pub names : HasFewNames messages

-- after lines that were taken as these messages comes one that reads as this message
pub record Reaches (lines : List (List ℕ)) (messages : List Message) (message : Message) : Type 0 where
  pub before : List (List ℕ)
  pub line : List ℕ
  pub after : List (List ℕ)
  pub parts : lines ≡ before ++ line ∷ after
  pub unreadable : ℕ
  pub taken : IsTaken before messages unreadable
  pub spelled : LineSpells line message

-- some line is the first that brings one name too many
abbrev pub MeetsOneTooMany : List (List ℕ) → Type 0
MeetsOneTooMany lines = (messages : List Message) × (message : Message) × Reaches lines messages message × IsOneTooMany messages message
