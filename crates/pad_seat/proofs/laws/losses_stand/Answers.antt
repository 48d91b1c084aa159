use Rattle.pad_seat.proofs.Calling.{loses}
use Rattle.pad_seat.proofs.laws.losses_stand.Goals as goal

pub returns : goal.returns
returns c = loses
