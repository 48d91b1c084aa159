use Rattle.std.proofs.Common.{Some, refl, ◌∙◌, ap, subst}
use Rattle.netflux_codec.specs.declared.since.Since.TheVariants as since
use Rattle.client_requests.specs.State as requested
use Rattle.client_requests.specs.Calls.{Questions}
use Rattle.pad_client.specs.View.{View}
use Rattle.pad_client.proofs.Noting.{HasBegun, begun_as}
use Rattle.pad_client.proofs.client.Client.repair.Goals as goal

pub returns-clause-begins : goal.returns-clause-begins
returns-clause-begins g c client stands clash =
    let i = c.self.inside in
    let chain = c.in_ok-repair.repair in
    let new : View = record { copy = i.copy; unreadable = i.unreadable; wanted = i.wanted; requests = c.begin_repair.new.self; repair = Some chain; synced = i.synced } in
    let same = ap (λ (v : View). v.requests) c.self.view_is in
    begun_as c.noted_stands.ensures c.args.self.now new client c.in_ok-wire.wire chain stands clash
    (subst (λ (r : requested.State). Questions r since.All c.in_ok-wire.wire) same c.in_ok-wire.ensures.question)
    (subst (HasBegun chain) (c.as_slice.ensures ∙ c.outbox.ensures ∙ ap (λ (r : requested.State). r.outbox) same) c.in_ok-repair.ensures.stands)
    c.in_ok-repair.ensures.whole (rw (← c.self.view_is) (rw c.begin_repair.ensures refl))
