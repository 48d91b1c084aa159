-- The seats of the connections.
use Rattle.std.proofs.Common.{◌≡◌, ℕ, Bool, true, false, not, List, [], ◌∷◌, ◌++◌, filter, length, refl, sym, ap, nat_eq, suc, ◌||◌}
use Rattle.std.specs.List.{list_any}
use Rattle.std.specs.Map.{lookup}
use Rattle.std.specs.Option.{is_some, option_map_or}
use Rattle.netflux_rooms.specs.Rooms.{Identities, Connection, serial_in}
use Rattle.netflux_rooms.specs.Inside.Seats.{without}
use Rattle.netflux_rooms.specs.Tables.{AreSeats}
use Rattle.netflux_rooms.specs.declared.seats.Seat.{Seat}

abbrev pub apart : ℕ → List Connection → List Connection
apart number connected = filter (λ (connection : Connection). not (nat_eq number connection.number)) connected

module _ (identities : Identities) where
  pub seats_push : (seats : List (ℕ × Seat)) (connected : List Connection) (seat : ℕ × Seat) (connection : Connection) → AreSeats identities seats connected
      → seat.0 ≡ connection.number → seat.1.serial ≡ connection.serial → seat.1.id ≡ identities.connection connection.serial
      → AreSeats identities (seats ++ seat ∷ []) (connected ++ connection ∷ [])
  seats_push [] [] seat connection h a b c = (a, b, c, tt)
  seats_push (s ∷ seats) (t ∷ connected) seat connection h a b c = (h.0, h.1, h.2, seats_push seats connected seat connection h.3 a b c)
  seats_push [] (t ∷ connected) seat connection h a b c = absurd h
  seats_push (s ∷ seats) [] seat connection h a b c = absurd h

  pub seats_length : (seats : List (ℕ × Seat)) (connected : List Connection) → AreSeats identities seats connected → length seats ≡ length connected
  seats_length [] [] h = refl
  seats_length (s ∷ seats) (t ∷ connected) h = ap (λ n. suc n) (seats_length seats connected h.3)
  seats_length [] (t ∷ connected) h = absurd h
  seats_length (s ∷ seats) [] h = absurd h

  pub seats_open : (n : ℕ) (seats : List (ℕ × Seat)) (connected : List Connection) → AreSeats identities seats connected
      → list_any (λ (connection : Connection). nat_eq n connection.number) connected ≡ is_some (lookup (nat_eq n) seats)
  seats_open n [] [] h = refl
  seats_open n (s ∷ seats) (t ∷ connected) h = by (nat_eq n t.number) (ap (nat_eq n) h.0) (seats_open n seats connected h.3)
    where
      by : (b : Bool) → nat_eq n s.0 ≡ b → list_any (λ (connection : Connection). nat_eq n connection.number) connected ≡ is_some (lookup (nat_eq n) seats)
          → (b || list_any (λ (connection : Connection). nat_eq n connection.number) connected) ≡ is_some (lookup (nat_eq n) (s ∷ seats))
      by true e again = rw e refl
      by false e again = rw e again
  seats_open n [] (t ∷ connected) h = absurd h
  seats_open n (s ∷ seats) [] h = absurd h

  pub seats_without : (n : ℕ) (seats : List (ℕ × Seat)) (connected : List Connection) → AreSeats identities seats connected
      → AreSeats identities (without n seats) (apart n connected)
  seats_without n [] [] h = tt
  seats_without n (s ∷ seats) (t ∷ connected) h = by (nat_eq n s.0) refl (sym (ap (nat_eq n) h.0)) (seats_without n seats connected h.3)
    where
      by : (b : Bool) → nat_eq n s.0 ≡ b → nat_eq n t.number ≡ nat_eq n s.0 → AreSeats identities (without n seats) (apart n connected)
          → AreSeats identities (without n (s ∷ seats)) (apart n (t ∷ connected))
      by true e f again = rw (f, e) again
      by false e f again = rw (f, e) (h.0, h.1, h.2, again)
  seats_without n [] (t ∷ connected) h = absurd h
  seats_without n (s ∷ seats) [] h = absurd h

  pub seats_id : (n : ℕ) (seats : List (ℕ × Seat)) (connected : List Connection) → AreSeats identities seats connected
      → option_map_or (λ (seat : Seat). seat.id) (lookup (nat_eq n) seats) (identities.connection 0) ≡ identities.connection (serial_in connected n)
  seats_id n [] [] h = refl
  seats_id n (s ∷ seats) (t ∷ connected) h = by (nat_eq n s.0) refl (sym (ap (nat_eq n) h.0)) (seats_id n seats connected h.3)
    where
      by : (b : Bool) → nat_eq n s.0 ≡ b → nat_eq n t.number ≡ nat_eq n s.0
          → option_map_or (λ (seat : Seat). seat.id) (lookup (nat_eq n) seats) (identities.connection 0) ≡ identities.connection (serial_in connected n)
          → option_map_or (λ (seat : Seat). seat.id) (lookup (nat_eq n) (s ∷ seats)) (identities.connection 0) ≡ identities.connection (serial_in (t ∷ connected) n)
      by true e f again = rw (f, e) h.2
      by false e f again = rw (f, e) again
  seats_id n [] (t ∷ connected) h = absurd h
  seats_id n (s ∷ seats) [] h = absurd h
