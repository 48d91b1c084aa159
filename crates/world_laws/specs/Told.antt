-- When the texts that a client heard are those of a hub which told only what a list has.
use Rattle.std.specs.Prelude.{◌≡◌, ℕ, Option, Some, List, [], ◌∷◌, ◌++◌, Contains}
use Rattle.pad_message.specs.declared.message.Message.{Message}
use Rattle.pad_message.specs.Message.{name_of}
use Rattle.netflux_codec.specs.declared.reply.Reply.{Reply}
use Rattle.netflux_codec.specs.declared.reply.Reply.TheVariants as reply
use Rattle.netflux_codec.specs.Reply.{reply_text}
use Rattle.netflux_core.specs.Channels.{Channels}
use Rattle.netflux_core.specs.Crashes.{ChannelLogs}
use Rattle.netflux_core.specs.Machine.{ServeState, Step}
use Rattle.netflux_rooms.specs.Rooms.{Identities}
use Rattle.serve_loop.specs.declared.event.Event.{Event}
use Rattle.serve_loop.specs.declared.out.Out.{Out}
use Rattle.serve_loop.specs.declared.out.Out.TheVariants.{Send, HangUp}
use Rattle.client_outbox.specs.Outbox.{Unacknowledged}
use Rattle.pad_seat.specs.State.{SeatState}
use Rattle.client_laws.specs.Past.{Past, left}
use Rattle.client_laws.specs.Agreement.{IsEntry, IsSpelled, IsCaughtUp, NothingInvented, OwnAreKept, Agrees}
use Rattle.hub_laws.specs.Told.{Brings, IsFounded, IsHeld, IsConnection, HaveDigits}
use Rattle.world_laws.specs.Acts.{HeardAt, SeatRuns}
use Rattle.world_laws.specs.Laws.{IsPastOf}
use Rattle.hub_laws.specs.Small.{HasSmallNumbers, IsOfClient, FewAreHeld}

-- what a reply brings for a channel are entries of a list
abbrev pub BringsEntries : List (List ℕ) → (channel : List ℕ) → Reply → Type 0
BringsEntries log channel said = (content : List ℕ) → Brings said channel content → IsEntry log content

-- The text is that of a reply which brings only entries of a list for this channel, if there is one.
pub record IsTold (log : List (List ℕ)) (whose : Option (List ℕ)) (text : List ℕ) : Type 0 where
  pub said : Reply
  pub text_is : text ≡ reply_text said
  pub small : HasSmallNumbers said
  pub brings : (channel : List ℕ) → whose ≡ Some channel → BringsEntries log channel said

-- each text among outputs is so
abbrev pub AreTexts : (Is : List ℕ → Type 0) → List Out → Type 0
AreTexts Is [] = Unit {0}
AreTexts Is (Send number text ∷ outs) = Is text × AreTexts Is outs
AreTexts Is (HangUp number ∷ outs) = AreTexts Is outs

-- what is held of the channel is a front of the list
abbrev pub IsFront : Channels → (channel : List ℕ) → List (List ℕ) → Type 0
IsFront channels channel log = (held : List (List ℕ)) → IsHeld (channels.at channel) held → (more : List (List ℕ)) × (log ≡ held ++ more)

-- each text that was heard is such a one, for the channel of the client
abbrev pub HeardIsTold : List (List ℕ) → List HeardAt → SeatState → Type 0
HeardIsTold log heard seat = (at : HeardAt) → Contains heard at → IsTold log seat.client.requests.channel at.text

-- each acknowledgement that was heard, of a message that awaited it then, is of one that an entry of the list spells
abbrev pub AcksAreOfEntries : List (List ℕ) → List HeardAt → Type 0
AcksAreOfEntries log heard = (at : HeardAt) (number : ℕ) (own : Unacknowledged) → Contains heard at → at.text ≡ reply_text (reply.Ack number)
    → Contains at.seat.client.requests.outbox own → own.number ≡ Some number → IsSpelled log own.message

-- no names clash among the messages of the list and the own messages that left the outbox
abbrev pub NamesTell : List (List ℕ) → List Past → Type 0
NamesTell log past = (one other : Message) → IsSpelled log one → Contains past (left other) → name_of one ≡ name_of other → one ≡ other

-- ---- the laws

-- a client has the channel that it had when it heard a text
abbrev pub HeardKeepChannel : Type 0
HeardKeepChannel = (heard : List HeardAt) (seat : SeatState) (at : HeardAt) (channel : List ℕ) → SeatRuns heard seat → Contains heard at
    → at.seat.client.requests.channel ≡ Some channel → seat.client.requests.channel ≡ Some channel

-- where all texts were told so, nothing that a client took was invented
abbrev pub TakenAreEntries : Type 0
TakenAreEntries = (heard : List HeardAt) (seat : SeatState) (past : List Past) (log : List (List ℕ)) → IsPastOf heard seat past → HeardIsTold log heard seat → NothingInvented past log

-- where acknowledgements are of entries, too, each own message that left the outbox is spelled by an entry
abbrev pub LeftAreSpelled : Type 0
LeftAreSpelled = (heard : List HeardAt) (seat : SeatState) (past : List Past) (log : List (List ℕ)) → SeatRuns heard seat → IsPastOf heard seat past → HeardIsTold log heard seat
    → AcksAreOfEntries log heard → NamesTell log past → OwnAreKept past log

-- so a client that is caught up with the list agrees with it
abbrev pub SeatsAgree : Type 0
SeatsAgree = (heard : List HeardAt) (seat : SeatState) (past : List Past) (log : List (List ℕ)) → SeatRuns heard seat → IsPastOf heard seat past → HeardIsTold log heard seat
    → AcksAreOfEntries log heard → NamesTell log past → IsCaughtUp past seat.client log → Agrees seat.client log

-- what a hub founds on what it holds brings entries of each list of which that is a front, for a channel that has no connection's digits
abbrev pub FoundedBringEntries : Type 0
FoundedBringEntries = (identities : Identities) (channels : Channels) (said : Reply) (channel : List ℕ) (log : List (List ℕ)) → IsFounded identities channels said
    → IsFront channels channel log → ¬ (IsConnection identities channel) → BringsEntries log channel said

-- so each text that a step of the hub tells brings only entries of such a list
abbrev pub StepsTell : ChannelLogs → Type 0
StepsTell logs = (identities : Identities) (before : ServeState) (moment : ℕ) (event : Event) (outs : List Out) (after : ServeState) (whose : Option (List ℕ)) (log : List (List ℕ))
    → HaveDigits identities → IsOfClient event → FewAreHeld after.channels → Step logs identities before moment event outs after
    → ((channel : List ℕ) → whose ≡ Some channel → IsFront after.channels channel log) → ((channel : List ℕ) → whose ≡ Some channel → ¬ (IsConnection identities channel))
    → AreTexts (IsTold log whose) outs
