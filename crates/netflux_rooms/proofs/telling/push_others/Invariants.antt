use Rattle.std.proofs.Common.{◌≡◌, ◌++◌, take}
use Rattle.netflux_rooms.specs.Rooms.{tell_each, but}
use Rattle.netflux_rooms.proofs.telling.push_others.Given as goal

abbrev pub invariant-loop-other : goal.invariant-loop-other
invariant-loop-other l = l.outs.items ≡ l.initial.outs.items ++ tell_each (but l.number (take l.other-index l.numbers)) l.reply
