use Rattle.std.proofs.Common.{subst}
use Rattle.client_copy.specs.Held.{IsHeldOn}
use Rattle.client_copy.specs.View.{View}
use Rattle.client_copy.proofs.working_copy.WorkingCopy.work.Goals as goal

pub returns-clause-held : goal.returns-clause-held
returns-clause-held g c = subst (λ (v : View). IsHeldOn v.pad.chain.branch.branch.units v.work v.sent v.strokes) c.self.view_is c.self.invariant
