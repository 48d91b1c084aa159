use Rattle.std.proofs.Common.{sym, subst}
use Rattle.std.proofs.lemmas.Result.{err_from_is_err_and}
use Rattle.pad_model.specs.Base.{first_base}
use Rattle.pad_chain.specs.State as chains
use Rattle.pad_chain.specs.Tie.{StandsFor}
use Rattle.pad_client.proofs.repair.Repair.receive.Goals as goal

pub returns-in_err-receive_named-clause-full : goal.returns-in_err-receive_named-clause-full
returns-in_err-receive_named-clause-full g c =
    let told = err_from_is_err_and c.from_residual.result c.from_residual.ensures.1 in
    rw (told.1, told.2) (λ is received choice stands.
    c.in_err-receive_named.ensures.limit is first_base received (c.stood_is_known.ensures c.self.inside.chain first_base received choice (subst (λ (v : chains.View). StandsFor v first_base received choice) (sym c.self.view_is) stands)))

pub returns-clause-stands : goal.returns-clause-stands
returns-clause-stands g c received choice differ stands =
    let given = c.in_ok-receive_named.ensures.stands first_base received choice differ (subst (λ (v : chains.View). StandsFor v first_base received choice) (sym c.self.view_is) stands) in
    (given.next, given.stands)

pub returns-clause-room : goal.returns-clause-room
returns-clause-room g c received choice stands full =
    let stood : StandsFor c.self.inside.chain first_base received choice = subst (λ (v : chains.View). StandsFor v first_base received choice) (sym c.self.view_is) stands in
    let same = c.in_ok-receive_named.ensures.exact first_base received (c.stood_is_known.ensures c.self.inside.chain first_base received choice stood) full in cc
