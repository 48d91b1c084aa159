use Rattle.std.proofs.Common.{sym, subst}
use Rattle.client_copy.specs.View as copies
use Rattle.pad_client.specs.View.{View}
use Rattle.pad_client.proofs.client.Client.base.Goals as goal

pub returns : goal.returns
returns g c client stands = c.base.ensures.stands client.copy (subst (λ (v : View). copies.StandsAs v.copy client.copy) (sym c.self.view_is) stands.copy)
