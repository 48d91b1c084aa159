-- When a client is caught up with a list of entries, and agrees with it.
use Rattle.std.specs.Prelude.{◌≡◌, ◌⊎◌, ℕ, true, List, [], Contains}
use Rattle.keeper_entry.specs.Entry.{content_in}
use Rattle.pad_message.specs.declared.message.Message.{Message}
use Rattle.pad_message.specs.Content.{Reads}
use Rattle.pad_model.specs.Base.{first_base}
use Rattle.pad_model.specs.Best.{IsBest}
use Rattle.pad_model.specs.Path.{text}
use Rattle.client_copy.specs.Pad.{committed}
use Rattle.client_requests.specs.State.{repairs}
use Rattle.pad_client.specs.State.{ClientState}
use Rattle.client_laws.specs.Past.{Past, took, left, has_repaired, HeardSince, OwnSince}

-- an entry of a list has this content, whoever sent it and whenever
abbrev pub IsEntry : List (List ℕ) → (content : List ℕ) → Type 0
IsEntry list content = (payload : List ℕ) × Contains list payload × (content_in payload ≡ content)

-- an entry of a list spells this message
abbrev pub IsSpelled : List (List ℕ) → Message → Type 0
IsSpelled list message = (payload : List ℕ) × Contains list payload × Reads (content_in payload) message

-- The client ended a repair, its outbox is empty, and each entry was heard by it or is its own, since that repair began: heard at a moment
-- outside every repair that was given up or still runs; its own if it spells a message that was not acknowledged then or was made since.
pub record IsCaughtUp (past : List Past) (client : ClientState) (log : List (List ℕ)) : Type 0 where
  pub repaired : has_repaired past ≡ true
  pub acknowledged : client.requests.outbox ≡ []
  pub each : (payload : List ℕ) → Contains log payload
      → HeardSince (repairs client.requests.asked) past (content_in payload) ⊎ ((message : Message) × Reads (content_in payload) message × OwnSince past message)

-- each content that a client took from its channel and that spells a message is an entry of this list
abbrev pub NothingInvented : List Past → List (List ℕ) → Type 0
NothingInvented past log = (content : List ℕ) (message : Message) → Contains past (took content) → Reads content message → IsEntry log content

-- each own message that left the outbox is spelled by an entry of this list
abbrev pub OwnAreKept : List Past → List (List ℕ) → Type 0
OwnAreKept past log = (message : Message) → Contains past (left message) → IsSpelled log message

-- a list of messages has each message that the entries of a list spell, and no other
pub record SpellsEach (log : List (List ℕ)) (messages : List Message) : Type 0 where
  pub each : (message : Message) → IsSpelled log message → Contains messages message
  pub only : (message : Message) → Contains messages message → IsSpelled log message

-- the client has the committed text of all messages that the entries spell, from the first base on
pub record Agrees (client : ClientState) (log : List (List ℕ)) : Type 0 where
  pub messages : List Message
  pub spelled : SpellsEach log messages
  pub path : List Message
  pub best : IsBest first_base messages path
  pub same : committed client.copy.pad ≡ text first_base path
