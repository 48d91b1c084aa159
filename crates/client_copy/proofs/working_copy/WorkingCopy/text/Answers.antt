use Rattle.std.proofs.Common.{sym, ap, subst, ◌∙◌}
use Rattle.pad_chain.specs.Tie.{StandsFor}
use Rattle.client_copy.specs.View.{View}
use Rattle.client_copy.proofs.working_copy.WorkingCopy.text.Goals as goal

pub returns-clause-is : goal.returns-clause-is
returns-clause-is g c = c.text.ensures.is ∙ ap (λ (v : View). v.pad.chain.branch.branch.units) c.self.view_is

pub returns-clause-stands : goal.returns-clause-stands
returns-clause-stands g c copy stands =
    c.text.ensures.stands copy.pad.base copy.pad.received copy.pad.choice
    (subst (λ (v : View). StandsFor v.pad.chain copy.pad.base copy.pad.received copy.pad.choice) (sym c.self.view_is) stands.pad.stands)
