use Rattle.disk_volume.specs.Moments.{still}
use Rattle.keeper_channel.proofs.moving.add_reserved.Goals as goal

pub returns-then-is_err-clause-files : goal.returns-then-is_err-clause-files
returns-then-is_err-clause-files g c = λ told. still
