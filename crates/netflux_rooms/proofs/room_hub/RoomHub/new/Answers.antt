use Rattle.std.proofs.Common.{sym, subst, refl, ap, map, List, ℕ, []}
use Rattle.netflux_rooms.specs.declared.seats.Seat.{Seat}
use Rattle.netflux_rooms.specs.Identity.{identities_of}
use Rattle.netflux_rooms.specs.Rooms.{no_rooms}
use Rattle.netflux_rooms.specs.Tables.{AreSeats}
use Rattle.netflux_rooms.proofs.Named.{identity_same}
use Rattle.netflux_rooms.proofs.room_hub.RoomHub.new.Goals as goal

pub returns-clause-rooms : goal.returns-clause-rooms
returns-clause-rooms c = record {
  keeper = c.in_ok-of_keeper.ensures;
  given = λ serial. refl;
  single = λ s t fits other is e. identity_same c.args.key c.args.stream s t fits other is e;
  taken = refl;
  below = tt;
  distinct = tt;
  names = c.new.ensures;
  seats = subst (λ (seats : List (ℕ × Seat)). AreSeats (identities_of c.args.key c.args.stream) seats []) (sym c.new-2.ensures) tt;
  digits = tt;
  channels = c.new-3.ensures;
  members = c.new-4.ensures;
}

pub returns-clause-whole : goal.returns-clause-whole
returns-clause-whole c = record { identities = identities_of c.args.key c.args.stream; rooms = no_rooms; has = returns-clause-rooms c; members = tt }

pub returns-clause-nobody : goal.returns-clause-nobody
returns-clause-nobody c = ap (λ (seats : List (ℕ × Seat)). map (λ (entry : ℕ × Seat). entry.0) seats) c.new-2.ensures
