-- What comes of an event, but for what the keeper does.
use Rattle.std.specs.Prelude.{◌≡◌, ◌⊎◌, ℕ, nat_lt, Bool, List, [], ◌∷◌, length, bytes_eq, MatchBool, Option, Some, None, if◌then◌else◌}
use Rattle.netflux_codec.specs.declared.ask.Ask.{Ask}
use Rattle.netflux_codec.specs.declared.body.Body.{Body}
use Rattle.netflux_codec.specs.declared.body.Body.TheVariants as body
use Rattle.netflux_codec.specs.declared.request.Request.{Request}
use Rattle.netflux_codec.specs.declared.reply.Reply.TheVariants as reply
use Rattle.netflux_codec.specs.declared.word.Word.TheVariants as word
use Rattle.netflux_codec.specs.Ask.{Asks}
use Rattle.netflux_codec.specs.Request.{Requests, IsSeqOf}
use Rattle.serve_loop.specs.declared.event.Event.{Event}
use Rattle.serve_loop.specs.declared.event.Event.TheVariants as event
use Rattle.serve_loop.specs.declared.out.Out.{Out}
use Rattle.netflux_rooms.specs.declared.heard.Heard.{Heard}
use Rattle.netflux_rooms.specs.declared.heard.Heard.TheVariants as heard
use Rattle.netflux_rooms.specs.declared.limits.TheConstants.{LONGEST_MESSAGE}
use Rattle.netflux_rooms.specs.declared.room_hub.RoomHub.{RoomHub}
use Rattle.netflux_rooms.specs.declared.target.Target.{Target}
use Rattle.netflux_rooms.specs.declared.target.Target.TheVariants as target
use Rattle.netflux_rooms.specs.Rooms.{Identities, Rooms, but, has_joined, is_open, id_of, members_of, named, tell, tell_each, error, opened, closed, joined, left}
use Rattle.netflux_rooms.specs.Tables.{Done, IsRooms}

-- the target of a connection that was found, or not
abbrev pub target_by : Option ℕ → Target
target_by None = target.Nobody
target_by (Some number) = target.Connection number

-- whom a message is for that is for no channel: the keeper, an open connection, nobody
abbrev pub target_elsewhere : Identities → Rooms → List ℕ → Target
target_elsewhere identities rooms text = if bytes_eq text identities.keeper then target.Keeper else target_by (named identities rooms.connected text)

-- whom a message is for: the first of a channel that the sender has joined, the keeper, an open connection, nobody
abbrev pub target_of : Identities → Rooms → ℕ → List ℕ → Target
target_of identities rooms number text =
    if has_joined rooms number text then target.Channel text else target_elsewhere identities rooms text

abbrev pub is_long : List ℕ → Bool
is_long content = nat_lt LONGEST_MESSAGE (length content)

-- what an event gives: outputs and the rooms after it, or something for the keeper to do for a request of a connection
pub data Answer : Type 0 where
  made : List Out × Rooms → Answer
  stores : (number seq : ℕ) (channel content : List ℕ) → Answer
  asks : (number seq : ℕ) → Ask → Answer

-- a message to a connection
abbrev pub delivered : Identities → Rooms → (number seq other : ℕ) (to content : List ℕ) → List Out
delivered identities rooms number seq other to content =
    if is_long content then error number seq word.Etoobig to
    else tell number (reply.Ack seq) ∷ tell other (reply.Msg (id_of identities rooms number) to content) ∷ []

-- a message to a channel, for the keeper to store
abbrev pub stored : Rooms → (number seq : ℕ) (channel to content : List ℕ) → Answer
stored rooms number seq channel to content =
    if is_long content then made (error number seq word.Etoobig to, rooms) else stores number seq channel content

-- a question to the keeper
abbrev pub asked : Rooms → (number seq : ℕ) (to content : List ℕ) → Ask → Answer
asked rooms number seq to content ask = if is_long content then made (error number seq word.Etoobig to, rooms) else asks number seq ask

-- what is told of a message to a channel that the keeper has stored
abbrev pub posted : Identities → Rooms → (number seq : ℕ) (channel content : List ℕ) → List Out
posted identities rooms number seq channel content =
    tell number (reply.Ack seq) ∷ tell_each (but number (members_of rooms channel)) (reply.Msg (id_of identities rooms number) channel content)

-- A message to the keeper: a question, or none. Of the answer this is said, here and below.
abbrev pub HearsAsk : Rooms → (number seq : ℕ) (to content : List ℕ) → (Answer → Type 0) → Type 0
HearsAsk rooms number seq to content Then =
    (((ask : Ask) → ¬ (Asks content ask)) × Then (made (error number seq word.Einval [], rooms)))
    ⊎ ((ask : Ask) × Asks content ask × Then (asked rooms number seq to content ask))

-- a message, by whom it is for
abbrev pub HearsMessage : Identities → Rooms → (number seq : ℕ) (to content : List ℕ) → Target → (Answer → Type 0) → Type 0
HearsMessage identities rooms number seq to content (target.Channel channel) Then = Then (stored rooms number seq channel to content)
HearsMessage identities rooms number seq to content target.Keeper Then = HearsAsk rooms number seq to content Then
HearsMessage identities rooms number seq to content (target.Connection other) Then =
    Then (made (delivered identities rooms number seq other to content, rooms))
HearsMessage identities rooms number seq to content target.Nobody Then = Then (made (error number seq word.Enoent to, rooms))

-- a request, by what it asks
abbrev pub HearsRequest : Identities → Rooms → (number seq : ℕ) → Body → (Answer → Type 0) → Type 0
HearsRequest identities rooms number seq (body.Join channel) Then = Then (made (joined identities rooms number seq channel))
HearsRequest identities rooms number seq (body.Leave channel reason) Then = Then (made (left identities rooms number seq channel reason))
HearsRequest identities rooms number seq (body.Msg to content) Then = HearsMessage identities rooms number seq to content (target_of identities rooms number to) Then
HearsRequest identities rooms number seq body.Ping Then = Then (made (tell number (reply.Ack seq) ∷ [], rooms))

-- a text of an open connection: a request, or none
abbrev pub Hears : Identities → Rooms → (number : ℕ) (text : List ℕ) → (Answer → Type 0) → Type 0
Hears identities rooms number text Then =
    (((request : Request) → ¬ (Requests text request)) × (seq : ℕ) × IsSeqOf text seq × Then (made (error number seq word.Einval [], rooms)))
    ⊎ ((request : Request) × Requests text request × HearsRequest identities rooms number request.seq request.body Then)

-- One event. What comes from a connection that is not open, and the opening of one that is, does nothing.
abbrev pub Steps : Identities → Rooms → Event → (Answer → Type 0) → Type 0
Steps identities rooms (event.Opened number) Then = Then (made (if is_open rooms number then ([], rooms) else opened identities rooms number))
Steps identities rooms (event.Closed number) Then = Then (made (if is_open rooms number then closed identities rooms number else ([], rooms)))
Steps identities rooms (event.Text number text) Then = MatchBool (is_open rooms number) (Hears identities rooms number text Then) (Then (made ([], rooms)))

-- the hub gives this answer
abbrev pub Gives : Identities → Rooms → Heard → RoomHub → Answer → Type 0
Gives identities rooms (heard.Done outs) hub (made what) = Done identities what outs.items hub
Gives identities rooms (heard.Store of number name text) hub (stores n seq channel content) =
    (of ≡ n) × (number ≡ seq) × (name ≡ channel) × (text ≡ content) × IsRooms identities hub rooms
Gives identities rooms (heard.Ask of number question) hub (asks n seq ask) = (of ≡ n) × (number ≡ seq) × (question ≡ ask) × IsRooms identities hub rooms
Gives identities rooms _ hub _ = ⊥
