-- What a client does with a text that it hears, and what it answers: one case for each reply.
use Rattle.std.specs.Prelude.{◌≡◌, if◌then◌else◌, ℕ, Bool, true, false, Option, Some, None, List}
use Rattle.pad_message.specs.declared.message.Message.{Message}
use Rattle.pad_message.specs.Content.{Reads}
use Rattle.netflux_codec.specs.declared.who.Who.{Who}
use Rattle.netflux_codec.specs.declared.who.Who.TheVariants as who
use Rattle.netflux_codec.specs.declared.reply.Reply.{Reply}
use Rattle.netflux_codec.specs.declared.reply.Reply.TheVariants as reply
use Rattle.netflux_codec.specs.Reply.{Replies}
use Rattle.client_requests.specs.declared.asked.Asked.{Asked}
use Rattle.client_requests.specs.declared.asked.Asked.TheVariants.{Nothing, History, Repair}
use Rattle.client_requests.specs.State as requested
use Rattle.client_requests.specs.Hear.{Either, Forgets, HearsMember, HearsKeeper, HearsAck, with_nothing_asked}
use Rattle.pad_client.specs.declared.heard.Heard.{Heard}
use Rattle.pad_client.specs.declared.heard.Heard.TheVariants as heard
use Rattle.pad_client.specs.State.{ClientState}
use Rattle.pad_client.specs.Repair.{with_answered, HearsRepaired}
use Rattle.pad_client.specs.Content.{MeetsFull, HearsContent}

-- ---- replies that bring no content: what they do to the requests, and the answer

-- the text says nothing to the client
pub record Ignores (before : requested.State) (answer : Heard) (after : requested.State) : Type 0 where
  pub told : answer ≡ heard.Ignored
  pub state : after ≡ before

-- somebody is in a channel: a connection, perhaps the client itself, or a keeper
abbrev pub HearsWho : requested.State → Who → List ℕ → Heard → requested.State → Type 0
HearsWho before (who.Member id) channel answer after = (joins : Bool) × HearsMember before id channel joins after × (answer ≡ (if joins then heard.Joined else heard.Ignored))
HearsWho before (who.Keeper id) channel answer after = (answer ≡ heard.Ignored) × HearsKeeper before id channel after

-- an acknowledgement
abbrev pub HearsAcked : requested.State → ℕ → Heard → requested.State → Type 0
HearsAcked before number answer after = (acknowledges : Bool) × HearsAck before number acknowledges after × (answer ≡ (if acknowledges then heard.Acked number else heard.Ignored))

-- the end of a history of its channel, with its total, while no repair runs
abbrev pub HearsEnd : Asked → requested.State → ℕ → Heard → requested.State → Type 0
HearsEnd Nothing before total answer after = Ignores before answer after
HearsEnd (History number fresh) before total answer after = (answer ≡ heard.End total) × (after ≡ with_nothing_asked before)
HearsEnd (Repair number) before total answer after = Ignores before answer after

-- the keeper does not know the key
abbrev pub HearsUnknown : Asked → requested.State → Heard → requested.State → Type 0
HearsUnknown Nothing before answer after = Ignores before answer after
HearsUnknown (History number fresh) before answer after = (answer ≡ heard.Unknown) × (after ≡ with_nothing_asked before)
HearsUnknown (Repair number) before answer after = Ignores before answer after

-- for its channel, which was joined once, it does this; for another it is ignored
abbrev pub IfItsChannel : requested.State → List ℕ → Heard → requested.State → Type 0 → Type 0
IfItsChannel before channel answer after does = Either (before.channel ≡ Some channel) does (Ignores before answer after)

abbrev pub HearsAbout : requested.State → Reply → Heard → requested.State → Type 0
HearsAbout before (reply.Ident id) answer after = (answer ≡ heard.Ident) × (after ≡ record before { identity = Some id })
HearsAbout before (reply.Error number word about) answer after = (answer ≡ heard.Error number word) × Forgets number before after
HearsAbout before (reply.Member who channel) answer after = HearsWho before who channel answer after
HearsAbout before (reply.Ack number) answer after = HearsAcked before number answer after
HearsAbout before (reply.HistoryEnd keeper channel total) answer after = IfItsChannel before channel answer after (HearsEnd before.asked before total answer after)
HearsAbout before (reply.HistoryUnknown keeper channel key) answer after = IfItsChannel before channel answer after (HearsUnknown before.asked before answer after)
HearsAbout before (reply.Joined number channel) answer after = Ignores before answer after
HearsAbout before (reply.Gone id channel reason) answer after = Ignores before answer after
HearsAbout before (reply.Entry keeper channel index moment sender content) answer after = Ignores before answer after
HearsAbout before (reply.Msg id target content) answer after = ⊥
HearsAbout before (reply.History keeper channel index sender content) answer after = ⊥

-- ---- replies that bring a content

-- a content, the channel or connection that it is for, and whether it is an entry of a history
pub record Addressed : Type 0 where
  pub target : List ℕ
  pub entry : Bool
  pub content : List ℕ

abbrev pub addressed_to : List ℕ → Bool → List ℕ → Addressed
addressed_to target entry content = record { target = target; entry = entry; content = content }

-- that of a reply
abbrev pub content_of : Reply → Option Addressed
content_of (reply.Msg id target content) = Some (addressed_to target false content)
content_of (reply.History keeper channel index sender content) = Some (addressed_to channel true content)
content_of (reply.Ident id) = None
content_of (reply.Error number word about) = None
content_of (reply.Member who channel) = None
content_of (reply.Ack number) = None
content_of (reply.HistoryEnd keeper channel total) = None
content_of (reply.HistoryUnknown keeper channel key) = None
content_of (reply.Joined number channel) = None
content_of (reply.Gone id channel reason) = None
content_of (reply.Entry keeper channel index moment sender content) = None

-- a content for its channel is taken; one for another target is ignored
abbrev pub HearsAddressed : ClientState → Addressed → Heard → ClientState → Type 0
HearsAddressed before addressed answer after =
    Either (before.requests.channel ≡ Some addressed.target) (HearsContent before addressed.entry addressed.content answer after) ((answer ≡ heard.Ignored) × (after ≡ before))

-- ---- all replies, and all texts

-- the reply is the end of a history of its channel while a repair runs, which has received these messages
abbrev pub IsRepairsEnd : ClientState → Reply → List Message → Type 0
IsRepairsEnd client (reply.HistoryEnd keeper channel total) received = (client.requests.channel ≡ Some channel) × (client.repair ≡ Some received)
IsRepairsEnd client (reply.Ident id) received = ⊥
IsRepairsEnd client (reply.Error number word about) received = ⊥
IsRepairsEnd client (reply.Member who channel) received = ⊥
IsRepairsEnd client (reply.Ack number) received = ⊥
IsRepairsEnd client (reply.HistoryUnknown keeper channel key) received = ⊥
IsRepairsEnd client (reply.Joined number channel) received = ⊥
IsRepairsEnd client (reply.Gone id channel reason) received = ⊥
IsRepairsEnd client (reply.Entry keeper channel index moment sender content) received = ⊥
IsRepairsEnd client (reply.Msg id target content) received = ⊥
IsRepairsEnd client (reply.History keeper channel index sender content) received = ⊥

-- what a reply does, and the answer
pub data HearsReply (before : ClientState) (said : Reply) : Heard → ClientState → Type 0 where
  is_content : (addressed : Addressed) (answer : Heard) (after : ClientState) → content_of said ≡ Some addressed → HearsAddressed before addressed answer after
      → HearsReply before said answer after
  -- a repair ends
  is_repaired : (received : List Message) (found : Bool) (after : ClientState) → IsRepairsEnd before said received → HearsRepaired before received found after
      → HearsReply before said (heard.Repaired found) after
  -- any other; it may give a repair up
  is_about : (answer : Heard) (requests : requested.State) → ((received : List Message) → ¬ (IsRepairsEnd before said received)) → HearsAbout before.requests said answer requests
      → HearsReply before said answer (with_answered requests before)

-- what a text does, and the answer
pub data Hears (before : ClientState) (text : List ℕ) : Heard → ClientState → Type 0 where
  is_strange : ((said : Reply) → ¬ (Replies text said)) → Hears before text heard.Strange before
  is_reply : (said : Reply) (answer : Heard) (after : ClientState) → Replies text said → HearsReply before said answer after → Hears before text answer after

-- ---- a text that brings a message

-- the content brings this message for the client's channel
pub record IsBrought (client : ClientState) (addressed : Addressed) (message : Message) : Type 0 where
  pub its : client.requests.channel ≡ Some addressed.target
  pub reads : Reads addressed.content message

-- the reply does
pub record IsBroughtBy (client : ClientState) (said : Reply) (message : Message) : Type 0 where
  pub addressed : Addressed
  pub has : content_of said ≡ Some addressed
  pub brought : IsBrought client addressed message

-- the text does
pub record Brings (client : ClientState) (text : List ℕ) (message : Message) : Type 0 where
  pub said : Reply
  pub replies : Replies text said
  pub brought : IsBroughtBy client said message

-- the text is refused: it brings such a message
pub record IsRefused (client : ClientState) (text : List ℕ) : Type 0 where
  pub message : Message
  pub brings : Brings client text message
  pub full : MeetsFull client message
