use Rattle.netflux_rooms.proofs.Lookups.{names_are}
use Rattle.netflux_rooms.proofs.names.Names.get.Goals as goal

pub returns : goal.returns
returns c = let e = names_are c.of-key.result c.args.id.now c.of-key.ensures c.args.self.now.ids in let f = c.get.ensures.value in let g = c.copied.ensures in cc (e, f, g)
