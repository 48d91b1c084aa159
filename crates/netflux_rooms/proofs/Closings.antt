-- A closing takes the connection out of each channel.
use Rattle.std.proofs.Common.{◌≡◌, ℕ, Bool, true, false, List, refl, sym, ap, ◌∙◌, bytes_eq}
use Rattle.std.specs.List.{list_any}
use Rattle.netflux_rooms.specs.declared.room_hub.RoomHub.{RoomHub}
use Rattle.netflux_rooms.specs.declared.room_table.RoomTable.{RoomTable}
use Rattle.netflux_rooms.specs.Rooms.{Identities, Rooms, but, channels_of}
use Rattle.netflux_rooms.specs.Tables.{IsRooms, members_at}
use Rattle.netflux_rooms.proofs.Joins.{close_rooms}

pub all_parted : (identities : Identities) (hub : RoomHub) (rooms : Rooms) → IsRooms identities hub rooms → (n : ℕ) (channels : List (List ℕ)) (table : RoomTable) → channels ≡ channels_of rooms n
    → ((d : List ℕ) → list_any (bytes_eq d) channels ≡ true → members_at table.rooms.entries d ≡ but n (members_at hub.rooms.rooms.entries d))
    → ((d : List ℕ) → list_any (bytes_eq d) channels ≡ false → members_at table.rooms.entries d ≡ members_at hub.rooms.rooms.entries d)
    → (d : List ℕ) → members_at table.rooms.entries d ≡ but n (members_at hub.rooms.rooms.entries d)
all_parted identities hub rooms tie n channels table are parted apart d = by (list_any (bytes_eq d) channels) refl
  where
    by : (b : Bool) → list_any (bytes_eq d) channels ≡ b → members_at table.rooms.entries d ≡ but n (members_at hub.rooms.rooms.entries d)
    by true e = parted d e
    by false e = apart d e ∙ tie.members d ∙ sym (close_rooms n d rooms.joined (ap (λ l. list_any (bytes_eq d) l) (sym are) ∙ e)) ∙ ap (λ l. but n l) (sym (tie.members d))
