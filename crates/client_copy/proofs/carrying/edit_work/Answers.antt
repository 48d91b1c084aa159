use Rattle.std.proofs.Common.{sym, subst}
use Rattle.pad_stroke.specs.Work.{Marked}
use Rattle.client_copy.specs.Held.{IsHeldOn}
use Rattle.client_copy.proofs.Behind.{short_fits}
use Rattle.client_copy.proofs.Editing.{fresh, edit_held}
use Rattle.client_copy.proofs.carrying.edit_work.Goals as goal

pub edit-requires-clause-small : goal.edit-requires-clause-small
edit-requires-clause-small g c = short_fits (g.S.UnitStore.units c.args.text.now) c.requires.held.work_is.short

pub edit-requires-clause-applies : goal.edit-requires-clause-applies
edit-requires-clause-applies g c = c.requires.held.work_is.applies

pub edit-requires-clause-hash : goal.edit-requires-clause-hash
edit-requires-clause-hash g c = c.requires.held.made

pub edit-requires-clause-fresh : goal.edit-requires-clause-fresh
edit-requires-clause-fresh g c = fresh c.args.strokes.now c.args.work.now.marks c.requires.held.work_is.own.strokes

pub returns-clause-held : goal.returns-clause-held
returns-clause-held g c =
    let edit = c.in_ok-edit.ensures in
    edit_held c.applied_patches_merge.ensures c.allowed_applies.ensures c.edit_typed.ensures c.others_stay_typed.ensures c.marks_of_stroke.ensures c.typed_whole.ensures c.turn_whole.ensures
    c.turn_typed.ensures c.marks_come_from_either.ensures (g.S.UnitStore.units c.args.text.now) c.args.work.now c.args.sent.now.entries c.args.strokes.now c.args.op c.edit.new.self
    c.requires.held c.as_units-units.ensures.text edit.allowed edit.edited edit.applies edit.before

pub returns-in_err-edit-clause-held : goal.returns-in_err-edit-clause-held
returns-in_err-edit-clause-held g c =
    subst (λ (w : Marked). IsHeldOn (g.S.UnitStore.units c.args.text.now) w c.args.sent.now.entries c.args.strokes.now) (sym c.in_err-edit.ensures.err) c.requires.held
