use Rattle.pad_patch.proofs.Twice.{inverse_turns_round}
use Rattle.pad_patch.proofs.laws.inverse_turns_round.Goals as goal

pub returns : goal.returns
returns c = inverse_turns_round
