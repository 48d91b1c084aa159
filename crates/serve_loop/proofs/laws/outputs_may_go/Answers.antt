use Rattle.serve_loop.proofs.Completing.{delivers_all}
use Rattle.serve_loop.proofs.laws.outputs_may_go.Goals as goal

pub returns : goal.returns
returns c = delivers_all
