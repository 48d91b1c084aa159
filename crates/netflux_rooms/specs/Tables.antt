-- What the tables of the hub have at a key, and what they say of the rooms.
use Rattle.std.specs.Prelude.{◌≡◌, ◌≤◌, ◌<◌, ◌^◌, ℕ, nat_eq, false, List, [], ◌∷◌, bytes_eq, Option, None}
use Rattle.std.specs.Map.{lookup}
use Rattle.std.specs.List.{list_any}
use Rattle.std.specs.Option.{unwrap_or}
use Rattle.pad_text.specs.Digits.{IsDigits}
use Rattle.netflux_rooms.specs.Rooms.{Identities, Connection, Rooms, channels_of, members_of, named}
use Rattle.netflux_rooms.specs.Identity.{identity}
use Rattle.netflux_rooms.specs.declared.seats.Seat.{Seat}
use Rattle.netflux_rooms.specs.declared.room_hub.RoomHub.{RoomHub}
use Rattle.serve_loop.specs.declared.out.Out.{Out}

-- the members of a channel
abbrev pub members_at : List (List ℕ × List ℕ) → List ℕ → List ℕ
members_at rooms channel = unwrap_or (lookup (bytes_eq channel) rooms) []

-- the channels of a connection
abbrev pub channels_at : List (ℕ × List (List ℕ)) → ℕ → List (List ℕ)
channels_at channels number = unwrap_or (lookup (nat_eq number) channels) []

-- the seats are those of these connections, in the same order
abbrev pub AreSeats : Identities → List (ℕ × Seat) → List Connection → Type 0
AreSeats identities [] [] = Unit {0}
AreSeats identities (seat ∷ seats) (connection ∷ connected) =
    (seat.0 ≡ connection.number) × (seat.1.serial ≡ connection.serial) × (seat.1.id ≡ identities.connection connection.serial) × AreSeats identities seats connected
AreSeats identities _ _ = ⊥

-- the number of an identity
abbrev pub names_at : List (List ℕ × ℕ) → List ℕ → Option ℕ
names_at names id = lookup (bytes_eq id) names

-- no serial number is greater than this, and each identity has 32 digits
abbrev pub AreBelow : Identities → List Connection → ℕ → Type 0
AreBelow identities [] most = Unit {0}
AreBelow identities (connection ∷ connected) most = (connection.serial ≤ most) × IsDigits 32 (identities.connection connection.serial) × AreBelow identities connected most

-- no two connections have one number or one identity
abbrev pub AreApart : Identities → List Connection → Type 0
AreApart identities [] = Unit {0}
AreApart identities (c ∷ connected) =
    (list_any (λ (d : Connection). nat_eq c.number d.number) connected ≡ false) × (named identities connected (identities.connection c.serial) ≡ None) × AreApart identities connected

-- each channel that was joined has 32 digits
abbrev pub AreChannels : List (ℕ × List ℕ) → Type 0
AreChannels [] = Unit {0}
AreChannels (join ∷ joins) = IsDigits 32 join.1 × AreChannels joins

-- the hub has these rooms
pub record IsRooms (identities : Identities) (hub : RoomHub) (rooms : Rooms) : Type 0 where
  pub keeper : hub.keeper ≡ identities.keeper
  pub given : (serial : ℕ) → identity hub.key hub.stream serial ≡ identities.connection serial
  pub single : (s t : ℕ) → s < 2 ^ 64 → t < 2 ^ 64 → IsDigits 32 (identities.connection s) → identities.connection s ≡ identities.connection t → s ≡ t
  pub taken : hub.taken ≡ rooms.taken
  pub below : AreBelow identities rooms.connected rooms.taken
  pub distinct : AreApart identities rooms.connected
  pub names : (id : List ℕ) → names_at hub.names.ids.entries id ≡ named identities rooms.connected id
  pub seats : AreSeats identities hub.seats.table.entries rooms.connected
  pub digits : AreChannels rooms.joined
  pub channels : (number : ℕ) → channels_at hub.channels.table.entries number ≡ channels_of rooms number
  pub members : (channel : List ℕ) → members_at hub.rooms.rooms.entries channel ≡ members_of rooms channel

-- these outputs and these rooms came of a step
abbrev pub Done : Identities → List Out × Rooms → List Out → RoomHub → Type 0
Done identities made outs hub = (outs ≡ made.0) × IsRooms identities hub made.1
