-- The seats without those of a number, and the identity that they give to a number.
use Rattle.std.specs.Prelude.{ℕ, List, filter, not, nat_eq}
use Rattle.std.specs.Map.{lookup}
use Rattle.std.specs.Option.{option_map_or}
use Rattle.netflux_rooms.specs.Identity.{identity}
use Rattle.netflux_rooms.specs.declared.room_hub.RoomHub.{RoomHub}
use Rattle.netflux_rooms.specs.declared.seats.Seat.{Seat}

-- entries without those of a key
abbrev pub without : {X : Type 0} → ℕ → List (ℕ × X) → List (ℕ × X)
without {X} number entries = filter (λ (entry : ℕ × X). not (nat_eq number entry.0)) entries

-- the identity of a connection by the seats, that of serial number 0 if it has none
abbrev pub id_at : RoomHub → ℕ → List ℕ
id_at hub number = option_map_or (λ (seat : Seat). seat.id) (lookup (nat_eq number) hub.seats.table.entries) (identity hub.key hub.stream 0)
