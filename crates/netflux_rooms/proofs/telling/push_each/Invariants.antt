use Rattle.std.proofs.Common.{◌≡◌, ◌++◌, take}
use Rattle.netflux_rooms.specs.Rooms.{tell_each}
use Rattle.netflux_rooms.proofs.telling.push_each.Given as goal

abbrev pub invariant-loop-number : goal.invariant-loop-number
invariant-loop-number l = l.outs.items ≡ l.initial.outs.items ++ tell_each (take l.number-index l.numbers) l.reply
