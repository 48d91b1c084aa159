-- Messages received, and the places of their names.
use Rattle.std.specs.Prelude.{◌≡◌, ◌≢◌, ℕ, ◌<◌, List, Option, Some, Contains, MatchOption, slice_get}
use Rattle.pad_text.specs.declared.name.Name.{Name}
use Rattle.pad_message.specs.declared.message.Message.{Message}
use Rattle.pad_message.specs.Message.{name_of}

-- none of the messages before the place has this name
abbrev pub IsNewAt : List Message → ℕ → Name → Type 0
IsNewAt received place name = (earlier : ℕ) (other : Message) → earlier < place → slice_get received earlier ≡ Some other → name_of other ≢ name

-- the first message with this name is at the place, or none was received
abbrev pub IsPlaceOf : List Message → Name → Option ℕ → Type 0
IsPlaceOf received name found =
    MatchOption found ((message : Message) → Contains received message → name_of message ≢ name)
    (λ place. (message : Message) × (slice_get received place ≡ Some message) × (name_of message ≡ name) × IsNewAt received place name)
