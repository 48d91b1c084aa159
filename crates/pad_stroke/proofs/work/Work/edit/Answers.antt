use Rattle.std.proofs.Common.{sym, ◌∙◌, subst}
use Rattle.pad_patch.specs.Piece.{text_after}
use Rattle.pad_merge.specs.Merge.{CanMerge}
use Rattle.pad_stroke.specs.Edit.{IsAllowed, typed}
use Rattle.pad_stroke.proofs.Turns.{CanApply-typed, text_after-typed}
use Rattle.pad_stroke.proofs.work.Work.edit.Goals as goal

pub after_typing-requires-clause-can : goal.after_typing-requires-clause-can
after_typing-requires-clause-can g c =
    let text = g.S.UnitStore.units c.args.text.now in
    let work = c.args.self.now in
    let shown = text_after work.patch text in
    let allowed = subst (λ us. IsAllowed us c.args.op) c.in_ok-shown.ensures.shown c.in_ok-allow.ensures.allowed in
    subst (CanMerge work.patch (typed work c.args.op c.args.stroke).patch) (sym c.length.ensures)
    (c.applied_patches_merge.ensures work.patch (typed work c.args.op c.args.stroke).patch text c.requires.applies (CanApply-typed work c.args.op c.args.stroke shown allowed))

pub returns-clause-shown : goal.returns-clause-shown
returns-clause-shown g c =
    let text = g.S.UnitStore.units c.args.text.now in
    let work = c.args.self.now in
    c.in_ok-self.ensures.both text (sym c.length.ensures) ∙ text_after-typed work c.args.op c.args.stroke (text_after work.patch text)

pub returns-clause-applies : goal.returns-clause-applies
returns-clause-applies g c =
    let text = g.S.UnitStore.units c.args.text.now in
    let work = c.args.self.now in
    let shown = text_after work.patch text in
    let allowed = subst (λ us. IsAllowed us c.args.op) c.in_ok-shown.ensures.shown c.in_ok-allow.ensures.allowed in
    c.in_ok-self.ensures.applies text (sym c.length.ensures) c.requires.applies (CanApply-typed work c.args.op c.args.stroke shown allowed)
