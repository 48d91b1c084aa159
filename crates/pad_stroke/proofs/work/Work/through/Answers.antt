use Rattle.std.proofs.Common.{◌≡◌, sym, ◌∙◌, ap, subst}
use Rattle.pad_patch.specs.Piece.{text_after, inserted}
use Rattle.pad_patch.specs.Misfit.{CanApply}
use Rattle.pad_transform.specs.Carried.{BothApply, FitsButLength, RemovesOnlyKept}
use Rattle.pad_stroke.specs.Work.{Marked, IsWork}
use Rattle.pad_stroke.specs.Through.{carried}
use Rattle.pad_stroke.proofs.Carrying.{carried_is, IsWork-carried, inserted-carried, CanApply-carried, fits-carried, removals-carried}
use Rattle.pad_stroke.proofs.work.Work.through.Goals as goal
use Rattle.pad_stroke.proofs.work.Work.through.Goals.{After-drop-self-inside}

-- the fields before
abbrev before : After-drop-self-inside → Marked
before c = record { patch = c.self.inside.patch; marks = c.self.inside.marks.items }

-- the fields after
abbrev now : After-drop-self-inside → Marked
now c = record { patch = record { ops = c.in_ok-join_touching.field-0; before = c.in_ok-moved.moved.before }; marks = c.self.inside.marks.items }

now_is : (c : After-drop-self-inside) → now c ≡ carried (before c) c.args.by.now c.args.after.now
now_is c =
    carried_is (before c) c.args.by.now c.in_ok-moved.moved c.args.after.now c.in_ok-join_touching.field-0
    c.in_ok-join_touching.ensures c.in_ok-moved.ensures.operations c.in_ok-moved.ensures.before

pub invariant_of-self : goal.invariant_of-self
invariant_of-self c =
    subst IsWork (sym (now_is c))
    (IsWork-carried (before c) c.args.by.now c.in_ok-moved.moved c.args.after.now c.self.invariant c.in_ok-moved.ensures.operations c.in_ok-moved.ensures.ordered
    c.in_ok-moved.ensures.insertions)

pub returns-clause-work : goal.returns-clause-work
returns-clause-work c =
    subst IsWork (sym (now_is c))
    (IsWork-carried (before c) c.args.by.now c.in_ok-moved.moved c.args.after.now c.self.invariant c.in_ok-moved.ensures.operations c.in_ok-moved.ensures.ordered
    c.in_ok-moved.ensures.insertions)

pub returns-clause-carried : goal.returns-clause-carried
returns-clause-carried c = now_is c ∙ ap (λ w. carried w c.args.by.now c.args.after.now) c.self.view_is

pub returns-clause-insertions : goal.returns-clause-insertions
returns-clause-insertions c =
    ap (λ (w : Marked). inserted w.patch) (now_is c)
    ∙ inserted-carried (before c) c.args.by.now c.in_ok-moved.moved c.args.after.now c.self.invariant c.in_ok-moved.ensures.operations c.in_ok-moved.ensures.ordered
    c.in_ok-moved.ensures.insertions
    ∙ ap (λ (w : Marked). inserted w.patch) c.self.view_is

pub returns-clause-applies : goal.returns-clause-applies
returns-clause-applies c text both =
    let there = subst (λ (w : Marked). BothApply w.patch c.args.by.now text) (sym c.self.view_is) both in
    subst (λ (w : Marked). CanApply w.patch (text_after c.args.by.now text)) (sym (now_is c))
    (CanApply-carried (before c) c.args.by.now c.in_ok-moved.moved c.args.after.now c.self.invariant c.in_ok-moved.ensures.operations c.in_ok-moved.ensures.ordered
    (text_after c.args.by.now text) (c.in_ok-moved.ensures.applies text there))

pub returns-clause-fits : goal.returns-clause-fits
returns-clause-fits c text both hash =
    let there = subst (λ (w : Marked). BothApply w.patch c.args.by.now text) (sym c.self.view_is) both in
    subst (λ (w : Marked). FitsButLength w.patch (text_after c.args.by.now text)) (sym (now_is c))
    (fits-carried (before c) c.args.by.now c.in_ok-moved.moved c.args.after.now c.self.invariant c.in_ok-moved.ensures.operations c.in_ok-moved.ensures.ordered
    (text_after c.args.by.now text) (c.in_ok-moved.ensures.applies text there) hash)

pub returns-clause-removals : goal.returns-clause-removals
returns-clause-removals c text both =
    let there = subst (λ (w : Marked). BothApply w.patch c.args.by.now text) (sym c.self.view_is) both in
    let kept = removals-carried (before c) c.args.by.now c.in_ok-moved.moved c.args.after.now c.self.invariant c.in_ok-moved.ensures.operations c.in_ok-moved.ensures.ordered
    text (c.in_ok-moved.ensures.removals text there) in
    subst (λ (w : Marked). RemovesOnlyKept w.patch c.args.self.now.patch c.args.by.now text) (sym (now_is c))
    (subst (λ (w : Marked). RemovesOnlyKept (carried (before c) c.args.by.now c.args.after.now).patch w.patch c.args.by.now text) c.self.view_is kept)
