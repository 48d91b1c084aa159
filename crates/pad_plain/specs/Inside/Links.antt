-- What is known of linked paths.
use Rattle.std.specs.Prelude.{◌≡◌, ℕ, ◌+◌, List, ◌∷◌, length, Some, Contains, All, slice_get}
use Rattle.pad_message.specs.declared.message.Message.{Message}
use Rattle.pad_message.specs.Message.{name_of}
use Rattle.pad_model.specs.declared.base.Base.{Base}
use Rattle.pad_model.specs.Path.{IsLinkedPath, IsLinked}
use Rattle.pad_list.specs.Number.{NoRepeat, IsNumberOf}
use Rattle.pad_model.specs.Count.{IsWaiting}
use Rattle.pad_plain.specs.declared.candidate.Candidate.{Candidate}
use Rattle.pad_plain.specs.declared.links.Links.{Links}
use Rattle.pad_plain.specs.Inside.Candidate.{names_of}

-- it has the length, the last name and the last place of a linked path
pub record IsCandidate (base : Base) (received : List Message) (candidate : Candidate) : Type 0 where
  pub last : Message
  pub before : List Message
  pub at_place : slice_get received candidate.place ≡ Some last
  pub named : candidate.name ≡ name_of last
  pub high : candidate.height.0 ≡ length before + 1
  pub linked : IsLinkedPath base received (last ∷ before)

-- each message that is linked has one
abbrev pub HasEveryLinked : Base → List Message → List Candidate → Type 0
HasEveryLinked base received candidates =
    (message : Message) → IsLinked base received message → (candidate : Candidate) × Contains candidates candidate × (candidate.name ≡ name_of message)

-- they are the linked paths of these messages
abbrev pub AreLinkedOf : Base → List Message → List Candidate → Type 0
AreLinkedOf base received candidates = All (IsCandidate base received) candidates × HasEveryLinked base received candidates

-- the linked paths, each once, and the number of messages that wait
pub record AreLinks (base : Base) (received : List Message) (links : Links) : Type 0 where
  pub every : HasEveryLinked base received links.candidates.items
  pub once : NoRepeat (names_of links.candidates.items)
  pub waits : IsNumberOf (IsWaiting base received) links.waiting
