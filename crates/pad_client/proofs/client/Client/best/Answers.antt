use Rattle.std.proofs.Common.{sym, subst}
use Rattle.pad_chain.specs.State as chains
use Rattle.pad_chain.specs.Tie.{StandsFor}
use Rattle.client_copy.specs.View as copies
use Rattle.pad_client.specs.View.{View}
use Rattle.pad_client.proofs.client.Client.best.Goals as goal

pub returns : goal.returns
returns g c client stands =
    let pad = client.copy.pad in
    let held = subst (λ (v : View). copies.StandsAs v.copy client.copy) (sym c.self.view_is) stands.copy in
    c.best.ensures.stands pad.base pad.received pad.choice (subst (λ (v : chains.View). StandsFor v pad.base pad.received pad.choice) (sym c.chain.ensures) held.pad.stands)
