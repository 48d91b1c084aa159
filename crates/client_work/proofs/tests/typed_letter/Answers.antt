use Rattle.client_work.proofs.Typing.{letter_on_ground}
use Rattle.client_work.proofs.tests.typed_letter.Goals as goal

pub returns : goal.returns
returns g c = λ units. letter_on_ground c.applied_patches_merge.ensures c.allowed_applies.ensures c.typed_whole.ensures c.marks_of_stroke.ensures c.edit_typed.ensures c.turn_whole.ensures
    c.turn_typed.ensures c.marks_come_from_either.ensures units c.args.chain.now.branch.branch.units (g.S.UnitStore.units c.text-text.result.now) _ c.hash.result
    (record { offset = c.args.place; remove = 0; insert = c.in_ok-insert.insert }) c.args.stroke c.in_ok-work.work c.edit.new.self c.text-text.ensures.is
    (g.met.S.UnitStore.is_text c.text-text.result.now) c.text-text.ensures.short c.in_ok-insert.ensures c.as_units-units.ensures.text c.in_ok-work.ensures.empty
    c.in_ok-edit.ensures.allowed c.in_ok-edit.ensures.edited c.in_ok-edit.ensures.applies
