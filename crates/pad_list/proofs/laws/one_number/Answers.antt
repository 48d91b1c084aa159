use Rattle.std.proofs.Common.{Contains}
use Rattle.pad_list.proofs.Numbers.{one_number}
use Rattle.pad_list.proofs.laws.one_number.Goals as goal

pub returns : goal.returns
returns c = λ all one other. one_number (Contains all) one other
