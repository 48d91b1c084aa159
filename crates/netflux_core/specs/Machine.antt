-- The serve machine: rooms, the lists of channels, and the disk of their files.
use Rattle.std.specs.Prelude.{◌≡◌, ◌≤◌, ◌+◌, ◌*◌, ◌-◌, ◌^◌, min, ◌⊎◌, ℕ, List, [], ◌∷◌, ◌++◌, length, Result, Ok, Err}
use Rattle.disk_volume.specs.Disk.{Disk, reads}
use Rattle.keeper_channel.specs.declared.refused.KeeperRefused.{KeeperRefused}
use Rattle.keeper_entry.specs.Entry.{payload_of}
use Rattle.keeper_state.specs.State.{State, AnswersByReading, Stores}
use Rattle.keeper_table.specs.declared.entry.Entry.{Entry}
use Rattle.netflux_codec.specs.declared.ask.Ask.{Ask}
use Rattle.netflux_codec.specs.declared.reply.Reply.{Reply}
use Rattle.netflux_codec.specs.declared.reply.Reply.TheVariants as reply
use Rattle.netflux_codec.specs.declared.word.Word.{Word}
use Rattle.netflux_codec.specs.declared.word.Word.TheVariants as word
use Rattle.netflux_rooms.specs.Machine.{Answer, made, stores, asks, posted, Steps}
use Rattle.netflux_rooms.specs.Rooms.{Identities, Rooms, no_rooms, id_of, tell, error}
use Rattle.netflux_rooms.specs.Tables.{IsRooms}
use Rattle.netflux_rooms.specs.declared.room_hub.RoomHub.{RoomHub}
use Rattle.serve_loop.specs.declared.event.Event.{Event}
use Rattle.serve_loop.specs.declared.out.Out.{Out}
use Rattle.netflux_core.specs.Channels.{Channels, no_channels, Changes}
use Rattle.netflux_core.specs.Crashes.{ChannelLogs, HoldsAll, LeavesAsked, LeavesStored}
use Rattle.netflux_core.specs.Histories.{channel_of, tell_entries, answered}
use Rattle.netflux_core.specs.Words.{Refuses, failures_after}

-- an entry that a step stored: in which channel, at which index, and the payload that holds it
pub record StoredEntry : Type 0 where
  pub channel : List ℕ
  pub index : ℕ
  pub payload : List ℕ

-- the entries stored so far, after one more was stored, or not
abbrev pub stored_after : List StoredEntry → (channel payload : List ℕ) → Result ℕ KeeperRefused → List StoredEntry
stored_after stored channel payload (Ok index) = stored ++ record { channel = channel; index = index; payload = payload } ∷ []
stored_after stored channel payload (Err refused) = stored

-- a state of the machine
pub record ServeState : Type 0 where
  pub rooms : Rooms
  pub channels : Channels
  -- the files as the keeper made them: what a load finds is read off them, and is no choice
  pub disk : Disk
  -- how many steps gave `ESTORE` so far
  pub failures : ℕ
  -- the entries that steps stored so far, in order
  pub stored : List StoredEntry

-- the state before any event, over a disk
abbrev pub serve_begins : Disk → ServeState
serve_begins disk = record { rooms = no_rooms; channels = no_channels; disk = disk; failures = 0; stored = [] }

-- the rooms stay, and one channel becomes this; so many failures were so far, and these entries stored
pub record InChannel (state : ServeState) (channel : List ℕ) (becomes : State) (failures : ℕ) (stored : List StoredEntry) (next : ServeState) : Type 0 where
  pub rooms : next.rooms ≡ state.rooms
  pub changes : Changes state.channels channel becomes next.channels
  pub failures_are : next.failures ≡ failures
  pub stored_are : next.stored ≡ stored

-- what a message to a channel gives: it is stored at this index, acknowledged and passed on; or why not
abbrev pub StoreGives : Identities → Rooms → (number seq : ℕ) → (channel content : List ℕ) → Result ℕ KeeperRefused → List Out → Type 0
StoreGives identities rooms number seq channel content (Ok index) outs = outs ≡ posted identities rooms number seq channel content
StoreGives identities rooms number seq channel content (Err refused) outs = Refuses number seq channel refused outs

-- what a question gives, of the list that it comes to; or why not
abbrev pub AskGives : (keeper : List ℕ) → (number seq : ℕ) → Ask → Result (List (List ℕ)) KeeperRefused → List Out → Type 0
AskGives keeper number seq ask (Ok held) outs = outs ≡ answered keeper number seq ask held
AskGives keeper number seq ask (Err refused) outs = Refuses number seq keeper refused outs

-- What comes of the answer of the rooms to an event. What needs the keeper comes to a result for its channel, and that decides the outputs.
abbrev pub Becomes : (logs : ChannelLogs) → Identities → ServeState → (moment : ℕ) → List Out → ServeState → Answer → Type 0
Becomes logs identities state moment outs next (made what) = (outs ≡ what.0) × (next ≡ record state { rooms = what.1 })
Becomes logs identities state moment outs next (stores number seq channel content) = (result : Result ℕ KeeperRefused) × (now : State)
    × Stores (logs.finds channel (reads state.disk)) state.channels.loaded (state.channels.at channel) (payload_of moment (id_of identities state.rooms number) content ∷ []) result now
    × StoreGives identities state.rooms number seq channel content result outs
    × InChannel state channel now (failures_after state.failures result) (stored_after state.stored channel (payload_of moment (id_of identities state.rooms number) content) result) next
    × LeavesStored logs state.channels channel (payload_of moment (id_of identities state.rooms number) content ∷ []) result now state.disk next.disk
Becomes logs identities state moment outs next (asks number seq ask) = (result : Result (List (List ℕ)) KeeperRefused) × (now : State)
    × AnswersByReading (logs.finds (channel_of ask) (reads state.disk)) state.channels.loaded (state.channels.at (channel_of ask)) (λ held told. told ≡ held) result now
    × AskGives identities.keeper number seq ask result outs
    × InChannel state (channel_of ask) now (failures_after state.failures result) state.stored next
    × LeavesAsked logs state.channels (channel_of ask) now state.disk next.disk

-- A step: by an event at a moment, to outputs and the next state.
abbrev pub Step : (logs : ChannelLogs) → Identities → ServeState → (moment : ℕ) → Event → List Out → ServeState → Type 0
Step logs identities state moment event outs next = Steps identities state.rooms event (Becomes logs identities state moment outs next)

-- What a step leaves that came to the keeper, and for which memory ran out then or after that.
abbrev pub BreaksBy : (logs : ChannelLogs) → Identities → ServeState → (moment : ℕ) → Disk → Answer → Type 0
BreaksBy logs identities state moment disk (made what) = ⊥
BreaksBy logs identities state moment disk (stores number seq channel content) = (result : Result ℕ KeeperRefused) × (now : State)
    × Stores (logs.finds channel (reads state.disk)) state.channels.loaded (state.channels.at channel) (payload_of moment (id_of identities state.rooms number) content ∷ []) result now
    × LeavesStored logs state.channels channel (payload_of moment (id_of identities state.rooms number) content ∷ []) result now state.disk disk
BreaksBy logs identities state moment disk (asks number seq ask) = (result : Result (List (List ℕ)) KeeperRefused) × (now : State)
    × AnswersByReading (logs.finds (channel_of ask) (reads state.disk)) state.channels.loaded (state.channels.at (channel_of ask)) (λ held told. told ≡ held) result now
    × LeavesAsked logs state.channels (channel_of ask) now state.disk disk

-- What a step leaves for which memory ran out: nothing was done and each crash leaves what is held, or it came to the keeper.
abbrev pub Breaks : (logs : ChannelLogs) → Identities → ServeState → (moment : ℕ) → Event → Disk → Type 0
Breaks logs identities state moment event disk =
    ((disk ≡ state.disk) × HoldsAll logs state.channels disk) ⊎ Steps identities state.rooms event (BreaksBy logs identities state moment disk)

-- Hub, keeper and volume are in this state. The volume had `first` faults when the machine began. Each step with `ESTORE` has a fault of its own,
-- and if no step gave it there is no fault more.
pub record StandsFor (keeps : Channels → Disk → Type 0) (identities : Identities) (hub : RoomHub) (disk : Disk) (first faults : ℕ) (state : ServeState) : Type 0 where
  pub rooms : IsRooms identities hub state.rooms
  pub channels : keeps state.channels disk
  pub disk_is : state.disk ≡ disk
  pub failures : min (first + state.failures) (2 ^ 64 - 1) ≤ faults
  pub unfailing : state.failures ≡ 0 → faults ≡ first

-- the rooms after an event: a message to a channel, and a question, leaves them
abbrev pub rooms_after : Rooms → Answer → Rooms
rooms_after rooms (made what) = what.1
rooms_after rooms (stores number seq channel content) = rooms
rooms_after rooms (asks number seq ask) = rooms

-- an error, and `ESTORE` only if the volume failed
abbrev pub IsRefused : (rises : Type 0) → (number seq : ℕ) → (about : List ℕ) → List Out → Type 0
IsRefused rises number seq about outs = (why : Word) × (outs ≡ error number seq why about) × (why ≡ word.Estore → rises)

-- What the answer of the rooms comes to over every volume, whether it tells or not, and what that costs by the volume's clock. A history of n
-- entries of a loaded channel has n + 2 texts and takes 2 * n calls at most; that a key is unknown takes none.
abbrev pub Costs : (is_loaded : List ℕ → Type 0) (rises : Type 0) → Identities → Rooms → (before now : ℕ) → List Out → Answer → Type 0
Costs is_loaded rises identities rooms before now outs (made what) = (outs ≡ what.0) × (now ≡ before)
Costs is_loaded rises identities rooms before now outs (stores number seq channel content) =
    (outs ≡ posted identities rooms number seq channel content) ⊎ IsRefused rises number seq channel outs
Costs is_loaded rises identities rooms before now outs (asks number seq ask) =
    ((entries : List Entry) × (end : Reply) × (outs ≡ tell number (reply.Ack seq) ∷ (tell_entries identities.keeper number ask entries ++ tell number end ∷ []))
    × (is_loaded (channel_of ask) → now ≤ before + 2 * length entries))
    ⊎ IsRefused rises number seq identities.keeper outs
