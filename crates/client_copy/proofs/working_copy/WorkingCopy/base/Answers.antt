use Rattle.std.proofs.Common.{ap, ◌∙◌}
use Rattle.client_copy.specs.View.{View}
use Rattle.client_copy.proofs.working_copy.WorkingCopy.base.Goals as goal

pub returns-clause-stands : goal.returns-clause-stands
returns-clause-stands g c copy stands = ap (λ (v : View). v.pad.base) c.self.view_is ∙ stands.pad.base
