use Rattle.netflux_rooms.proofs.members.Members.leave.Goals as goal
use Rattle.netflux_rooms.proofs.Keys.{but_removed}

pub returns : goal.returns
returns c = let e = but_removed c.args.number c.self.inside.numbers.keys c.len-unique.ensures.unique in cc
