-- Own messages that were not acknowledged, and the texts that send them.
use Rattle.std.specs.Prelude.{◌≡◌, ℕ, ◌+◌, ◌==◌, not, is_some, if◌then◌else◌, Bool, false, Option, Some, None, List, [], ◌∷◌, ◌++◌, filter, bytes_eq, Contains}
use Rattle.std.specs.List.{list_any}
use Rattle.client_outbox.specs.declared.outbox.TheConstants.{MOST_UNACKNOWLEDGED}
use Rattle.pad_text.specs.declared.name.Name.{Name}
use Rattle.pad_message.specs.declared.message.Message.{Message}
use Rattle.pad_message.specs.Message.{name_of, compact}
use Rattle.pad_message.specs.Content.{mark}
use Rattle.pad_message.specs.Kind.{is_checkpoint}
use Rattle.netflux_codec.specs.declared.body.Body.TheVariants.{Msg}
use Rattle.netflux_codec.specs.Request.{request_text}

-- an own message that was not acknowledged, and the number of the request that awaits its answer, if one does
pub record Unacknowledged : Type 0 where
  pub message : Message
  pub number : Option ℕ

-- the most of them
abbrev pub most_unacknowledged : ℕ
most_unacknowledged = MOST_UNACKNOWLEDGED

-- the content as which a client sends a message: `cp|` stands before a checkpoint
abbrev pub content_of : Message → List ℕ
content_of message = if is_checkpoint message.kind then mark ++ compact message else compact message

-- the request that sends it to the channel under this number
abbrev pub message_request : List ℕ → ℕ → Message → List ℕ
message_request channel number message = request_text (record { seq = number; body = Msg channel (content_of message) })

-- the names are the same
abbrev pub same_name : Name → Name → Bool
same_name name other = bytes_eq name.0 other.0

-- the number awaits its answer under this one
abbrev pub awaits_under : ℕ → Option ℕ → Bool
awaits_under number None = false
awaits_under number (Some other) = number == other

-- some message awaits its answer
abbrev pub some_awaits : List Unacknowledged → Bool
some_awaits outbox = list_any (λ (own : Unacknowledged). is_some own.number) outbox

-- an own message awaits its answer under the number
abbrev pub IsAwaited : ℕ → List Unacknowledged → Type 0
IsAwaited number outbox = (own : Unacknowledged) × Contains outbox own × (own.number ≡ Some number)

-- a message that awaits no answer any more
abbrev pub forgotten : Unacknowledged → Unacknowledged
forgotten own = record own { number = None }

-- no message awaits its answer under this number any more
abbrev pub forgotten_under : ℕ → List Unacknowledged → List Unacknowledged
forgotten_under number [] = []
forgotten_under number (own ∷ outbox) = (if awaits_under number own.number then forgotten own else own) ∷ forgotten_under number outbox

-- no message awaits its answer any more
abbrev pub all_forgotten : List Unacknowledged → List Unacknowledged
all_forgotten [] = []
all_forgotten (own ∷ outbox) = forgotten own ∷ all_forgotten outbox

-- without the message that awaits its answer under this number
abbrev pub without_number : ℕ → List Unacknowledged → List Unacknowledged
without_number number outbox = filter (λ (own : Unacknowledged). not (awaits_under number own.number)) outbox

-- without the messages of this name
abbrev pub without_name : Name → List Unacknowledged → List Unacknowledged
without_name name outbox = filter (λ (own : Unacknowledged). not (same_name name (name_of own.message))) outbox

-- the outbox once more, in order, under new numbers; `last` is the number given out last
abbrev pub sent_again : ℕ → List Unacknowledged → List Unacknowledged
sent_again last [] = []
sent_again last (own ∷ outbox) = record own { number = Some (last + 1) } ∷ sent_again (last + 1) outbox

-- the texts that send it to the channel
abbrev pub texts_again : List ℕ → ℕ → List Unacknowledged → List (List ℕ)
texts_again channel last [] = []
texts_again channel last (own ∷ outbox) = message_request channel (last + 1) own.message ∷ texts_again channel (last + 1) outbox
