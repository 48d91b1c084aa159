use Rattle.std.proofs.Common.{refl, sym, ◌∙◌, subst}
use Rattle.std.proofs.lemmas.Result.{err_from_is_err_and}
use Rattle.pad_client.specs.View.{View, StandsAs}
use Rattle.pad_client.proofs.Editing.{edit_cause, client_edited}
use Rattle.pad_client.proofs.client.Client.edit.Goals as goal

pub returns-clause-edits : goal.returns-clause-edits
returns-clause-edits g c = rw (← c.self.view_is) (record { quiet = sym c.repairs.ensures ∙ c.if-repairs.false; edited = c.edit.new.self; edits = c.in_ok-edit.ensures.edits; state = refl })

pub returns-clause-stands : goal.returns-clause-stands
returns-clause-stands g c client stands =
    let i = c.self.inside in
    let held : View = record { copy = i.copy; unreadable = i.unreadable; wanted = i.wanted; requests = i.requests; repair = i.repair; synced = i.synced } in
    let new : View = record { copy = c.edit.new.self; unreadable = i.unreadable; wanted = i.wanted; requests = i.requests; repair = i.repair; synced = i.synced } in
    let stood = subst (λ (v : View). StandsAs v client) (sym c.self.view_is) stands in
    client_edited held new client c.args.op stood (sym c.text-units.ensures.is ∙ c.text-units.ensures.stands client.copy stood.copy) (sym c.repairs.ensures ∙ c.if-repairs.false) c.in_ok-edit.ensures.edits (record { unreadable = refl; wanted = refl; repair = refl; synced = refl }) refl

pub returns-in_err-edit-clause-cause : goal.returns-in_err-edit-clause-cause
returns-in_err-edit-clause-cause g c =
    let told = err_from_is_err_and c.from_residual.result c.from_residual.ensures.1 in
    rw (← c.self.view_is) (rw (told.1, told.2) (edit_cause c.self.inside.requests _ _ _ (sym c.repairs.ensures ∙ c.if-repairs.false) c.in_err-edit.ensures.cause))
