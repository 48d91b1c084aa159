use Rattle.std.proofs.Common.{take}
use Rattle.netflux_rooms.proofs.Partings.{IsParted}
use Rattle.netflux_rooms.proofs.parting.part_all.Given as goal

abbrev pub invariant-loop-channel : goal.invariant-loop-channel
invariant-loop-channel l = IsParted l.initial.rooms.rooms.entries l.rooms.rooms.entries l.id l.number (take l.channel-index l.channels) l.outs.items
