use Rattle.disk_volume.specs.Memory.{disk_of}
use Rattle.netflux_core.specs.Channels.{no_channels}
use Rattle.hub_keeper.proofs.tests.outputs_of.Goals as goal

pub run-requires-clause-tie : goal.run-requires-clause-tie
run-requires-clause-tie c = λ told. (no_channels, c.new-keeper.ensures.keeps (disk_of c.args.volume.now) c.requires.rests)
