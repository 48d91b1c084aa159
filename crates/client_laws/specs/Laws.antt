-- The laws. Each is the contract of a function of `src/laws.rt`.
use Rattle.std.specs.Prelude.{◌≡◌, ◌⊎◌, ◌↔◌, ℕ, true, Some, List, Contains}
use Rattle.pad_message.specs.declared.message.Message.{Message}
use Rattle.pad_message.specs.Content.{Reads}
use Rattle.pad_message.specs.Message.{name_of}
use Rattle.pad_model.specs.Base.{first_base}
use Rattle.pad_model.specs.Best.{IsBest}
use Rattle.pad_model.specs.Path.{NamesDiffer}
use Rattle.client_copy.specs.Pad.{committed}
use Rattle.netflux_codec.specs.declared.reply.Reply.{Reply}
use Rattle.netflux_codec.specs.declared.reply.Reply.TheVariants as reply
use Rattle.client_outbox.specs.Outbox.{Unacknowledged}
use Rattle.client_requests.specs.State.{repairs}
use Rattle.pad_client.specs.declared.heard.Heard.{Heard}
use Rattle.pad_client.specs.Hear.{HearsReply, Addressed, content_of}
use Rattle.pad_client.specs.State.{ClientState}
use Rattle.pad_client.specs.Sync.{own_messages}
use Rattle.client_laws.specs.Past.{Past, left, has_repaired, HeardSince, OwnSince}
use Rattle.client_laws.specs.Befalls.{Lives}
use Rattle.client_laws.specs.Agreement.{IsCaughtUp, NothingInvented, OwnAreKept, Agrees}

-- the message was heard since the last repair that ended began, or is the client's own since then
abbrev pub IsHad : List Past → ClientState → Message → Type 0
IsHad past client message = ((content : List ℕ) × HeardSince (repairs client.requests.asked) past content × Reads content message) ⊎ OwnSince past message

-- once a repair has ended, a client has received exactly the messages that it heard since that repair began, and its own since then
abbrev pub ReceivedAreHad : Type 0
ReceivedAreHad = (past : List Past) (client : ClientState) → Lives past client → has_repaired past ≡ true → (message : Message) → Contains client.copy.pad.received message ↔ IsHad past client message

-- once a repair has ended, the best chain is the best of all messages received, from the first base on
abbrev pub RepairedIsBest : Type 0
RepairedIsBest = (past : List Past) (client : ClientState) → Lives past client → has_repaired past ≡ true
    → (client.copy.pad.base ≡ first_base) × IsBest first_base client.copy.pad.received client.copy.pad.choice.chosen

-- an own message since the last repair that ended began is in the outbox, or has left it
abbrev pub OwnWaitOrLeft : Type 0
OwnWaitOrLeft = (past : List Past) (client : ClientState) (message : Message) → Lives past client → OwnSince past message
    → Contains (own_messages client.requests.outbox) message ⊎ Contains past (left message)

-- A client that is caught up with a list agrees with it, if nothing was invented and its own messages were kept.
abbrev pub CaughtUpAgree : Type 0
CaughtUpAgree = (past : List Past) (client : ClientState) (log : List (List ℕ)) → Lives past client → IsCaughtUp past client log → NothingInvented past log → OwnAreKept past log → Agrees client log

-- two clients that agree with one list have one committed text, if different messages of the list have different names
abbrev pub AgreeingTextsAreOne : Type 0
AgreeingTextsAreOne = (one other : ClientState) (log : List (List ℕ)) → (first : Agrees one log) → Agrees other log → NamesDiffer first.messages → committed one.copy.pad ≡ committed other.copy.pad

-- an entry that the client heard spells a message of an own message's name
pub record IsAnsweredByEntry (client : ClientState) (said : Reply) (own : Unacknowledged) : Type 0 where
  pub addressed : Addressed
  pub has : content_of said ≡ Some addressed
  pub its : client.requests.channel ≡ Some addressed.target
  pub entry : addressed.entry ≡ true
  pub message : Message
  pub reads : Reads addressed.content message
  pub named : name_of message ≡ name_of own.message

-- a reply answers an own message: it acknowledges the request that awaits its answer, or it brings such an entry
abbrev pub IsAnswered : ClientState → Reply → Unacknowledged → Type 0
IsAnswered client said own = ((number : ℕ) × (said ≡ reply.Ack number) × (own.number ≡ Some number)) ⊎ IsAnsweredByEntry client said own

-- an own message leaves the outbox only by a reply that answers it
abbrev pub LeavesByAnswer : Type 0
LeavesByAnswer = (before : ClientState) (said : Reply) (answer : Heard) (after : ClientState) (own : Unacknowledged) → HearsReply before said answer after → Contains before.requests.outbox own
    → Contains (own_messages after.requests.outbox) own.message ⊎ IsAnswered before said own
