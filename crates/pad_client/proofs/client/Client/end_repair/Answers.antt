use Rattle.std.proofs.Common.{Some, refl, ap, subst}
use Rattle.client_copy.specs.View as copies
use Rattle.pad_chain.specs.State as chains
use Rattle.pad_client.specs.View.{View}
use Rattle.pad_client.proofs.Noting.{HasEnded, ended_as}
use Rattle.pad_client.proofs.client.Client.end_repair.Goals as goal

pub returns-clause-ends : goal.returns-clause-ends
returns-clause-ends g c =
    let now = c.args.self.now in
    let held : View = record { copy = now.copy; unreadable = now.unreadable; wanted = now.wanted; requests = now.requests; repair = Some c.args.repair; synced = now.synced } in
    let i = c.self.inside in
    let new : View = record { copy = c.end_repair.new.self; unreadable = i.unreadable; wanted = i.wanted; requests = c.end.new.self; repair = i.repair; synced = i.synced } in
    ended_as held new c.args.repair c.in_ok-found.found refl
    (subst (λ (v : copies.View). HasEnded v new.copy c.args.repair c.in_ok-found.found) (ap (λ (v : View). v.copy) c.self.view_is)
    (subst (λ (chain : chains.View). HasEnded i.copy new.copy chain c.in_ok-found.found) c.into_chain.ensures.is c.in_ok-found.ensures.ends))
    (rw (← c.self.view_is) (rw (ap (λ (v : View). v.repair) c.self.view_is, c.requires.none, c.end.ensures) refl))
