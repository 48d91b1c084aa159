use Rattle.std.proofs.Common.{sym, ◌∙◌, ap, subst}
use Rattle.client_copy.specs.View as copies
use Rattle.pad_client.specs.View.{View}
use Rattle.pad_client.proofs.client.Client.text.Goals as goal

pub returns-clause-is : goal.returns-clause-is
returns-clause-is g c = c.text.ensures.is ∙ ap (λ (v : View). v.copy.pad.chain.branch.branch.units) c.self.view_is

pub returns-clause-stands : goal.returns-clause-stands
returns-clause-stands g c client stands = c.text.ensures.stands client.copy (subst (λ (v : View). copies.StandsAs v.copy client.copy) (sym c.self.view_is) stands.copy)
