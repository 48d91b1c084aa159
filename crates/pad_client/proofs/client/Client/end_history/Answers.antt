use Rattle.std.proofs.Common.{◌≡◌, Option, Some, sym, ◌∙◌, ap, subst}
use Rattle.pad_chain.specs.State as chains
use Rattle.pad_client.specs.View.{View, StandsAs}
use Rattle.pad_client.proofs.Ending.{by_end, by_no_end}
use Rattle.pad_client.proofs.client.Client.end_history.Goals as goal

pub returns-in-Some-clause-hears : goal.returns-in-Some-clause-hears
returns-in-Some-clause-hears g c =
    let i = c.self.inside in
    let running : i.repair ≡ Some c.in-Some.repair = sym c.take.ensures.value ∙ c.in-Some.is in
    let seen = ap (λ (r : Option chains.View). record { copy = i.copy; unreadable = i.unreadable; wanted = i.wanted; requests = i.requests; repair = r; synced = i.synced }) (sym running) ∙ c.self.view_is in
    by_end _ c.args.self.now c.end_repair.new.self c.args.total c.end_repair.result seen c.end_repair.ensures.ends

pub returns-in-None-clause-hears : goal.returns-in-None-clause-hears
returns-in-None-clause-hears g c keeper channel client stands clash its =
    let i = c.self.inside in
    let held : View = record { copy = i.copy; unreadable = i.unreadable; wanted = i.wanted; requests = i.requests; repair = i.repair; synced = i.synced } in
    by_no_end held c.take.new.self c.end_answered.new.requests client keeper channel c.args.total c.end_answered.result (subst (λ (v : View). StandsAs v client) (sym c.self.view_is) stands) its
    (sym c.take.ensures.value ∙ c.in-None.is) c.take.ensures.after c.end_answered.ensures
