use Rattle.std.proofs.Common.{◌≡◌, ◌++◌, take, map, ℕ}
use Rattle.netflux_rooms.specs.Rooms.{tell, member}
use Rattle.netflux_rooms.specs.Inside.Seats.{id_at}
use Rattle.netflux_rooms.proofs.room_hub.RoomHub.push_members.Given as goal

abbrev pub invariant-loop-other : goal.invariant-loop-other
invariant-loop-other l = l.outs.items ≡ l.initial.outs.items ++ map (λ (other : ℕ). tell l.number (member (id_at l.self) l.channel other)) (take l.other-index l.other-items)
