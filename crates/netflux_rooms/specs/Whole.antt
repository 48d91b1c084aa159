-- Hubs in which each member of a channel is connected, and what can be served of their steps.
use Rattle.std.specs.Prelude.{◌≡◌, ℕ, true, List, [], ◌∷◌, map}
use Rattle.serve_loop.specs.Connected.{is_among, ClosesAlone}
use Rattle.serve_loop.specs.Hangs.{HangsBehind}
use Rattle.serve_loop.specs.declared.event.Event.{Event}
use Rattle.serve_loop.specs.declared.out.Out.{Out}
use Rattle.netflux_rooms.specs.declared.heard.Heard.{Heard}
use Rattle.netflux_rooms.specs.declared.heard.Heard.TheVariants as heard
use Rattle.netflux_rooms.specs.declared.room_hub.RoomHub.{RoomHub}
use Rattle.netflux_rooms.specs.declared.seats.Seat.{Seat}
use Rattle.netflux_rooms.specs.Rooms.{Identities, Connection, Rooms}
use Rattle.netflux_rooms.specs.Tables.{IsRooms}

-- the numbers of the open connections, in order of opening
abbrev pub numbers_of : Rooms → List ℕ
numbers_of rooms = map (λ (connection : Connection). connection.number) rooms.connected

-- the same of a hub
abbrev pub connections_of : RoomHub → List ℕ
connections_of hub = map (λ (entry : ℕ × Seat). entry.0) hub.seats.table.entries

-- each of these joins is of one of these connections
abbrev pub AreConnected : List ℕ → List (ℕ × List ℕ) → Type 0
AreConnected numbers [] = Unit {0}
AreConnected numbers (join ∷ joins) = (is_among numbers join.0 ≡ true) × AreConnected numbers joins

-- a hub has some rooms, and each member of a channel is connected
pub record IsWhole (hub : RoomHub) : Type 0 where
  pub identities : Identities
  pub rooms : Rooms
  pub has : IsRooms identities hub rooms
  pub members : AreConnected (numbers_of rooms) rooms.joined

-- the outputs that come of an event at once
abbrev pub outs_of : Heard → List Out
outs_of (heard.Done outs) = outs.items
outs_of (heard.Store number seq channel content) = []
outs_of (heard.Ask number seq ask) = []

-- A step of a hub can be served: each hang-up comes right behind a text to the same connection, and a closing closes its connection alone and
-- tells connections that are still open.
pub record CanServe (event : Event) (before now : RoomHub) (outs : List Out) : Type 0 where
  pub whole : IsWhole now
  pub hangs : HangsBehind outs
  pub closes : ClosesAlone event (connections_of before) (connections_of now) outs
