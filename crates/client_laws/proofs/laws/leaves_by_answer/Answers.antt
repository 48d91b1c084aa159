use Rattle.client_laws.proofs.Answered as answered
use Rattle.client_laws.proofs.laws.leaves_by_answer.Goals as goal

pub returns : goal.returns
returns c = answered.leaves_by_answer
