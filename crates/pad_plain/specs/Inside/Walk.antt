-- What the walk from a message back to the base answers: places in the list of the messages received.
use Rattle.std.specs.Prelude.{◌≡◌, ◌≢◌, ℕ, List, ◌∷◌, length, Option, Some, MatchOption, Contains, slice_get}
use Rattle.std.specs.List.{filter_map}
use Rattle.pad_message.specs.declared.message.Message.{Message}
use Rattle.pad_message.specs.Message.{name_of}
use Rattle.pad_model.specs.declared.base.Base.{Base}
use Rattle.pad_model.specs.Path.{IsLinkedPath}

-- the messages at these places
abbrev pub messages_at : List Message → List ℕ → List Message
messages_at received places = filter_map (slice_get received) places

-- the place of the message's parent; nothing if that is the base or was not received
abbrev pub IsParentPlace : Base → List Message → Message → Option ℕ → Type 0
IsParentPlace base received message found =
    MatchOption found (message.parent ≢ base.name → (other : Message) → Contains received other → name_of other ≢ message.parent)
    (λ place. (message.parent ≢ base.name) × ((parent : Message) × (slice_get received place ≡ Some parent) × (name_of parent ≡ message.parent)))

-- one entry for each message, in their order
pub record AreParentPlaces (base : Base) (received : List Message) (parents : List (Option ℕ)) : Type 0 where
  pub many : length parents ≡ length received
  pub each : (at : ℕ) (message : Message) (found : Option ℕ) → slice_get received at ≡ Some message → slice_get parents at ≡ Some found → IsParentPlace base received message found

-- the message at the place has not the base's name
abbrev pub IsAboveBase : Base → List Message → ℕ → Type 0
IsAboveBase base received place = (message : Message) → slice_get received place ≡ Some message → name_of message ≢ base.name

-- the path is linked and ends in the message at the place
pub record LeadsTo (base : Base) (received : List Message) (place : ℕ) (path : List Message) : Type 0 where
  pub last : Message
  pub before : List Message
  pub at_place : slice_get received place ≡ Some last
  pub whole : path ≡ last ∷ before
  pub linked : IsLinkedPath base received path
