-- Who is connected, and who joined which channel: the state, and what each request makes of it.
use Rattle.std.specs.Prelude.{ℕ, ◌+◌, ◌-◌, ◌^◌, ◌&&◌, ◌||◌, nat_eq, nat_le, not, Bool, List, [], ◌∷◌, ◌++◌, map, filter, length, bytes_eq, Option, Some, None, codes, if◌then◌else◌}
use Rattle.std.specs.List.{list_any, flat_map}
use Rattle.netflux_codec.specs.declared.reply.Reply.{Reply}
use Rattle.netflux_codec.specs.declared.reply.Reply.TheVariants as reply
use Rattle.netflux_codec.specs.declared.who.Who.TheVariants as who
use Rattle.netflux_codec.specs.declared.word.Word.{Word}
use Rattle.netflux_codec.specs.declared.word.Word.TheVariants as word
use Rattle.netflux_codec.specs.Reply.{reply_text}
use Rattle.netflux_rooms.specs.declared.limits.TheConstants.{MOST_CONNECTIONS, MOST_CHANNELS}
use Rattle.serve_loop.specs.declared.out.Out.{Out}
use Rattle.serve_loop.specs.declared.out.Out.TheVariants.{Send, HangUp}

-- an open connection: its number, and which of those taken in it is, from 1
pub record Connection : Type 0 where
  pub number : ℕ
  pub serial : ℕ

pub record Rooms : Type 0 where
  -- the open connections, in the order in which they opened
  pub connected : List Connection
  -- how many were taken in so far
  pub taken : ℕ
  -- which connection joined which channel, in the order of joining
  pub joined : List (ℕ × List ℕ)

-- nobody is connected, and nobody was taken in
abbrev pub no_rooms : Rooms
no_rooms = record { connected = []; taken = 0; joined = [] }

-- the identities: the keeper's, and those of connections by their serial numbers
pub record Identities : Type 0 where
  pub keeper : List ℕ
  pub connection : ℕ → List ℕ

abbrev pub is_open : Rooms → ℕ → Bool
is_open rooms number = list_any (λ (connection : Connection). nat_eq number connection.number) rooms.connected

abbrev pub has_joined : Rooms → ℕ → List ℕ → Bool
has_joined rooms number channel = list_any (λ (join : ℕ × List ℕ). nat_eq number join.0 && bytes_eq channel join.1) rooms.joined

-- the channels of a connection, and the members of a channel, in the order of joining
abbrev pub channels_of : Rooms → ℕ → List (List ℕ)
channels_of rooms number = map (λ (join : ℕ × List ℕ). join.1) (filter (λ (join : ℕ × List ℕ). nat_eq number join.0) rooms.joined)

abbrev pub members_of : Rooms → List ℕ → List ℕ
members_of rooms channel = map (λ (join : ℕ × List ℕ). join.0) (filter (λ (join : ℕ × List ℕ). bytes_eq channel join.1) rooms.joined)

-- some numbers but one
abbrev pub but : ℕ → List ℕ → List ℕ
but number numbers = filter (λ other. not (nat_eq number other)) numbers

-- the serial number of the first connection of this number, 0 if there is none
abbrev pub serial_in : List Connection → ℕ → ℕ
serial_in [] number = 0
serial_in (connection ∷ connected) number = if nat_eq number connection.number then connection.serial else serial_in connected number

abbrev pub id_of : Identities → Rooms → ℕ → List ℕ
id_of identities rooms number = identities.connection (serial_in rooms.connected number)

-- the number of the first open connection of this identity
abbrev pub named : Identities → List Connection → List ℕ → Option ℕ
named identities [] id = None
named identities (connection ∷ connected) id = if bytes_eq (identities.connection connection.serial) id then Some connection.number else named identities connected id

-- a reply to a connection, and one reply to each of some
abbrev pub tell : ℕ → Reply → Out
tell number reply = Send number (reply_text reply)

abbrev pub tell_each : List ℕ → Reply → List Out
tell_each numbers reply = map (λ number. tell number reply) numbers

abbrev pub joins : Rooms → ℕ → List ℕ → Rooms
joins rooms number channel = record { connected = rooms.connected; taken = rooms.taken; joined = rooms.joined ++ (number, channel) ∷ [] }

abbrev pub leaves : Rooms → ℕ → List ℕ → Rooms
leaves rooms number channel = record { connected = rooms.connected; taken = rooms.taken; joined = filter (λ (join : ℕ × List ℕ). not (nat_eq number join.0 && bytes_eq channel join.1)) rooms.joined }

abbrev pub opens : Rooms → ℕ → Rooms
opens rooms number = record { connected = rooms.connected ++ record { number = number; serial = rooms.taken + 1 } ∷ []; taken = rooms.taken + 1; joined = rooms.joined }

abbrev pub closes : Rooms → ℕ → Rooms
closes rooms number = record {
  connected = filter (λ (connection : Connection). not (nat_eq number connection.number)) rooms.connected;
  taken = rooms.taken;
  joined = filter (λ (join : ℕ × List ℕ). not (nat_eq number join.0)) rooms.joined;
}

abbrev pub error : ℕ → (seq : ℕ) → Word → (about : List ℕ) → List Out
error number seq why about = tell number (reply.Error seq why about) ∷ []

-- a connection opens
abbrev pub is_full : Rooms → Bool
is_full rooms = nat_le MOST_CONNECTIONS (length rooms.connected) || nat_le (2 ^ 64 - 1) rooms.taken

abbrev pub opened : Identities → Rooms → ℕ → List Out × Rooms
opened identities rooms number =
    if is_full rooms then (tell number (reply.Error 0 word.Efull []) ∷ HangUp number ∷ [], rooms)
    else (tell number (reply.Ident (identities.connection (rooms.taken + 1))) ∷ [], opens rooms number)

-- a connection closes: each of its channels in turn tells the others
abbrev pub goodbyes : (members : List ℕ → List ℕ) (id : List ℕ) → ℕ → List (List ℕ) → List Out
goodbyes members id number channels =
    flat_map (λ channel. tell_each (but number (members channel)) (reply.Gone id channel (codes "Quit"))) channels

abbrev pub closed : Identities → Rooms → ℕ → List Out × Rooms
closed identities rooms number = (goodbyes (members_of rooms) (id_of identities rooms number) number (channels_of rooms number), closes rooms number)

-- a join, a leave
abbrev pub member : (id : ℕ → List ℕ) → List ℕ → ℕ → Reply
member id channel number = reply.Member (who.Member (id number)) channel

-- what a new member is told, and what the earlier members are
abbrev pub welcome : (keeper : List ℕ) (id : ℕ → List ℕ) (members : List ℕ) → ℕ → (seq : ℕ) → (channel : List ℕ) → List Out
welcome keeper id members number seq channel =
    tell number (reply.Joined seq channel) ∷ tell number (reply.Member (who.Keeper keeper) channel)
    ∷ (map (λ other. tell number (member id channel other)) members
    ++ tell number (member id channel number) ∷ tell_each members (member id channel number))

abbrev pub joined : Identities → Rooms → ℕ → (seq : ℕ) → (channel : List ℕ) → List Out × Rooms
joined identities rooms number seq channel =
    if has_joined rooms number channel then (error number seq word.Ejoined channel, rooms) else
    if nat_le MOST_CHANNELS (length (channels_of rooms number)) then (error number seq word.Efull channel, rooms) else
    (welcome identities.keeper (id_of identities rooms) (members_of rooms channel) number seq channel, joins rooms number channel)

abbrev pub left : Identities → Rooms → ℕ → (seq : ℕ) → (channel reason : List ℕ) → List Out × Rooms
left identities rooms number seq channel reason =
    if has_joined rooms number channel
    then (tell number (reply.Ack seq) ∷ tell_each (but number (members_of rooms channel)) (reply.Gone (id_of identities rooms number) channel reason), leaves rooms number channel)
    else (error number seq word.Enoent channel, rooms)
