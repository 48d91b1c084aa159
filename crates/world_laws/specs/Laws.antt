-- The laws. Each is the contract of a function of `src/laws.rt`.
use Rattle.std.specs.Prelude.{◌≡◌, ◌⊎◌, ℕ, Some, List, Contains}
use Rattle.pad_message.specs.declared.message.Message.{Message}
use Rattle.netflux_codec.specs.declared.reply.Reply.{Reply}
use Rattle.netflux_codec.specs.Reply.{Replies}
use Rattle.client_outbox.specs.Outbox.{Unacknowledged}
use Rattle.pad_client.specs.Hear.{Addressed, content_of}
use Rattle.pad_client.specs.State.{ClientState}
use Rattle.pad_seat.specs.State.{SeatState}
use Rattle.client_laws.specs.Past.{Past, took, left}
use Rattle.client_laws.specs.Befalls.{Lives}
use Rattle.client_laws.specs.Laws.{IsAnswered}
use Rattle.world_laws.specs.Acts.{Acts, HeardAt, SeatRuns}

-- a text that a client hears brings this content for this channel, which is the client's
pub record IsTaken (client : ClientState) (text channel content : List ℕ) : Type 0 where
  pub said : Reply
  pub replies : Replies text said
  pub addressed : Addressed
  pub has : content_of said ≡ Some addressed
  pub its : client.requests.channel ≡ Some channel
  pub target : addressed.target ≡ channel
  pub same : addressed.content ≡ content

-- a text that a client hears answers this message of its outbox
pub record IsAnsweredBy (client : ClientState) (text : List ℕ) (message : Message) : Type 0 where
  pub said : Reply
  pub replies : Replies text said
  pub own : Unacknowledged
  pub has : Contains client.requests.outbox own
  pub same : own.message ≡ message
  pub answered : IsAnswered client said own

-- once a client has a channel, it has it after each act
abbrev pub ChannelsStay : Type 0
ChannelsStay = (heard : List HeardAt) (before : SeatState) (texts : List (List ℕ)) (after : SeatState) (channel : List ℕ) → SeatRuns heard before → Acts before texts after
    → before.client.requests.channel ≡ Some channel → after.client.requests.channel ≡ Some channel

-- What befell a client of these texts: each content that it took, a text brought that it heard; each own message that left, a text answered.
pub record IsPastOf (heard : List HeardAt) (seat : SeatState) (past : List Past) : Type 0 where
  pub lives : Lives past seat.client
  pub taken : (content : List ℕ) → Contains past (took content)
      → (at : HeardAt) × (channel : List ℕ) × Contains heard at × IsTaken at.seat.client at.text channel content × (seat.client.requests.channel ≡ Some channel)
  pub answered : (message : Message) → Contains past (left message) → (at : HeardAt) × Contains heard at × IsAnsweredBy at.seat.client at.text message

-- all that a client with its connection does is a past of the client, and the texts that it heard brought and answered all of it
abbrev pub RunsHavePasts : Type 0
RunsHavePasts = (heard : List HeardAt) (seat : SeatState) → SeatRuns heard seat → (past : List Past) × IsPastOf heard seat past
