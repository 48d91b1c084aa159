use Rattle.std.proofs.Common.{Option, List, refl, sym, ◌∙◌, ap, subst}
use Rattle.std.proofs.lemmas.Result.{err_from_is_err_and}
use Rattle.pad_message.specs.declared.message.Message.{Message}
use Rattle.client_copy.specs.State.{Copy}
use Rattle.pad_client.specs.Content.{MeetsFullFor}
use Rattle.pad_client.specs.View.{View, StandsAs}
use Rattle.pad_client.proofs.Noting.{none_runs}
use Rattle.pad_client.proofs.Taking.{taken, still}
use Rattle.pad_client.proofs.client.Client.receive.Goals as goal

pub returns-clause-receives : goal.returns-clause-receives
returns-clause-receives g c client stands clash =
    let i = c.self.inside in
    let held : View = record { copy = i.copy; unreadable = i.unreadable; wanted = i.wanted; requests = i.requests; repair = i.repair; synced = i.synced } in
    let new : View = record { copy = c.receive.new.self; unreadable = i.unreadable; wanted = i.wanted; requests = c.use_message.new.requests; repair = i.repair; synced = i.synced } in
    let stood = subst (λ (v : View). StandsAs v client) (sym c.self.view_is) stands in
    let given = c.in_ok-moved.ensures.follows client.copy stood.copy clash in
    (given.0, given.1, taken held new client given.0 c.args.entry c.args.message stood given.2 (ap (λ (copy : Copy). copy.pad.all) given.1.state ∙ given.1.received.all) (record { unreadable = refl; wanted = refl; repair = refl; synced = refl }) (c.use_message.ensures.used c.args.message c.requires.named))

pub returns-clause-room : goal.returns-clause-room
returns-clause-room g c client stands full =
    c.in_ok-moved.ensures.room client.copy (subst (λ (v : View). StandsAs v client) (sym c.self.view_is) stands).copy
    (subst (λ (r : Option (List Message)). MeetsFullFor client.copy.pad r c.args.message) (none_runs client.copy.pad.all c.args.self.now.repair client.repair c.requires.none stands.repair) full)

pub returns-in_err-moved-clause-full : goal.returns-in_err-moved-clause-full
returns-in_err-moved-clause-full g c =
    let told = err_from_is_err_and c.from_residual.result c.from_residual.ensures.1 in
    rw told.1 (λ is client stands. subst (λ (r : Option (List Message)). MeetsFullFor client.copy.pad r c.args.message) (sym (none_runs client.copy.pad.all c.args.self.now.repair client.repair c.requires.none stands.repair))
    (c.in_err-moved.ensures.full (told.2.0 is) client.copy (subst (λ (v : View). StandsAs v client) (sym c.self.view_is) stands).copy))

pub returns-in_err-moved-clause-still : goal.returns-in_err-moved-clause-still
returns-in_err-moved-clause-still g c =
    let i = c.self.inside in
    let held : View = record { copy = i.copy; unreadable = i.unreadable; wanted = i.wanted; requests = i.requests; repair = i.repair; synced = i.synced } in
    let new : View = record { copy = c.receive.new.self; unreadable = i.unreadable; wanted = i.wanted; requests = i.requests; repair = i.repair; synced = i.synced } in
    let told = err_from_is_err_and c.from_residual.result c.from_residual.ensures.1 in
    rw told.1 (λ is client stands. still held new (c.in_err-moved.ensures.still (told.2.0 is)) (record { unreadable = refl; wanted = refl; repair = refl; synced = refl }) refl client (subst (λ (v : View). StandsAs v client) (sym c.self.view_is) stands))
