use Rattle.std.proofs.Common.{refl, sym, ap, subst, true}
use Rattle.client_copy.specs.State.{Copy}
use Rattle.pad_client.specs.View.{View, StandsAs}
use Rattle.pad_client.proofs.Taking.{taken}
use Rattle.pad_client.proofs.client.Client.adopt_entry.Goals as goal

pub returns-then-adopted-clause-adopts : goal.returns-then-adopted-clause-adopts
returns-then-adopted-clause-adopts g c is client stands more =
    let i = c.self.inside in
    let held : View = record { copy = i.copy; unreadable = i.unreadable; wanted = i.wanted; requests = i.requests; repair = i.repair; synced = i.synced } in
    let new : View = record { copy = c.adopt.new.self; unreadable = i.unreadable; wanted = i.wanted; requests = c.hear_entry_of.new.self; repair = i.repair; synced = i.synced } in
    let stood = subst (λ (v : View). StandsAs v client) (sym c.self.view_is) stands in
    let given = c.in_ok-adopted.ensures.adopts c.if-adopted.true client.copy stood.copy more in
    (given.0, given.1, taken held new client given.0 true c.args.message.now stood given.2 (ap (λ (copy : Copy). copy.pad.all) given.1.state) (record { unreadable = refl; wanted = refl; repair = refl; synced = refl }) (rw (sym c.requires.named) c.hear_entry_of.ensures))

pub returns-else-adopted-clause-refuses : goal.returns-else-adopted-clause-refuses
returns-else-adopted-clause-refuses g c is =
    let refused = c.in_ok-adopted.ensures.refuses c.if-adopted.false in
    (rw (← c.self.view_is) (rw refused.0 refl), refused.1)
