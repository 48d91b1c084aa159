use Rattle.std.proofs.Common.{length, ap, arith, refl}
use Rattle.client_requests.specs.State as requested
use Rattle.pad_client.specs.View.{View}
use Rattle.pad_client.proofs.client.Client.resend.Goals as goal

pub returns-clause-resends : goal.returns-clause-resends
returns-clause-resends g c = rw (← c.self.view_is) (c.resend.new.self, c.in_ok-wires.ensures.resends, refl)

pub returns-clause-last : goal.returns-clause-last
returns-clause-last g c =
    let last = ap (λ (r : requested.State). r.last) c.in_ok-wires.ensures.resends.state in
    let before = ap (λ (v : View). v.requests.last) c.self.view_is in
    let many = ap length c.outbox.ensures in
    omega (arith, last, before, many, c.len-count.ensures.is, c.len-count.ensures.few)
