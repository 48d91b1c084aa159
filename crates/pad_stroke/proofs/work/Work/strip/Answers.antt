use Rattle.std.proofs.Common.{◌≡◌, length, filter, sym, ◌∙◌, ap, subst, arith}
use Rattle.std.specs.List.{All}
use Rattle.pad_text.specs.Text.{IsText}
use Rattle.pad_patch.specs.declared.operation.Operation.{Operation}
use Rattle.pad_patch.specs.Piece.{inserted, insertions}
use Rattle.pad_patch.specs.Misfit.{CanApply}
use Rattle.pad_stroke.specs.Strip.{stays, staying, is_needed, thinned, stripped}
use Rattle.pad_list.specs.Number.{NoRepeat}
use Rattle.pad_stroke.specs.Work.{Marked, IsWork}
use Rattle.pad_stroke.proofs.Stripped.{IsWork-stripped, NoRepeat-stripped, inserted-stripped, CanApply-stripped, stripped_is}
use Rattle.pad_stroke.proofs.work.Work.strip.Goals as goal
use Rattle.pad_stroke.proofs.work.Work.strip.Goals.{After-strip_marks}

-- the fields before
abbrev before : After-strip_marks → Marked
before c = record { patch = c.self.inside.patch; marks = c.self.inside.marks.items }

-- the fields of the other work
abbrev other : After-strip_marks → Marked
other c = record { patch = c.of.inside.patch; marks = c.of.inside.marks.items }

-- the operations before
ops_is : (c : After-strip_marks) → c.into_vec.result.items ≡ c.self.inside.patch.ops
ops_is c = c.into_vec.ensures ∙ c.replace-ops.ensures.value

now_is : (c : After-strip_marks)
    → record { patch = record { ops = c.new-3.result; before = c.self.inside.patch.before }; marks = c.strip_marks.new.marks.items } ≡ stripped (before c) (other c)
now_is c =
    let gone = c.as_slice-gone.ensures.value in
    let marks = c.as_slice.ensures.value in
    stripped_is (before c) (other c) c.new-3.result c.strip_marks.new.marks.items
    (c.new-3.ensures ∙ c.strip_operations.ensures
    ∙ ap (λ os. filter is_needed (thinned c.as_slice-gone.result.now os c.as_slice.result.now)) (ops_is c)
    ∙ ap (λ ms. filter is_needed (thinned ms c.self.inside.patch.ops c.as_slice.result.now)) gone
    ∙ ap (λ ms. filter is_needed (thinned c.of.inside.marks.items c.self.inside.patch.ops ms)) marks)
    (c.strip_marks.ensures ∙ ap (λ ms. filter (stays ms) c.self.inside.marks.items) gone)

texts_of : (c : After-strip_marks) → All (λ (o : Operation). IsText o.insert) (thinned (other c).marks (before c).patch.ops (before c).marks)
texts_of c =
    let own = subst (λ (w : Marked). All (λ (o : Operation). IsText o.insert) (thinned c.args.of.now.marks w.patch.ops w.marks)) (sym c.self.view_is) c.requires in
    subst (λ (w : Marked). All (λ (o : Operation). IsText o.insert) (thinned w.marks c.self.inside.patch.ops c.self.inside.marks.items)) (sym c.of.view_is) own

pub invariant_of-self : goal.invariant_of-self
invariant_of-self c = subst IsWork (sym (now_is c)) (IsWork-stripped (before c) (other c) c.self.invariant (texts_of c))

pub returns-clause-work : goal.returns-clause-work
returns-clause-work c = subst IsWork (sym (now_is c)) (IsWork-stripped (before c) (other c) c.self.invariant (texts_of c))

pub returns-clause-stripped : goal.returns-clause-stripped
returns-clause-stripped c = now_is c ∙ ap (λ w. stripped w (other c)) c.self.view_is ∙ ap (stripped c.args.self.now) c.of.view_is

pub returns-clause-units : goal.returns-clause-units
returns-clause-units c =
    ap (λ (w : Marked). inserted w.patch) (now_is c)
    ∙ inserted-stripped (before c) (other c) c.self.invariant
    ∙ ap (λ (w : Marked). staying (other c).marks (inserted w.patch) w.marks) c.self.view_is
    ∙ ap (λ (w : Marked). staying w.marks (inserted c.args.self.now.patch) c.args.self.now.marks) c.of.view_is

pub returns-clause-applies : goal.returns-clause-applies
returns-clause-applies c text can =
    let there = subst (λ (w : Marked). CanApply w.patch text) (sym c.self.view_is) can in
    subst (λ (w : Marked). CanApply w.patch text) (sym (now_is c)) (CanApply-stripped (before c) (other c) text c.self.invariant there)

pub strip_operations-requires-clause-marked : goal.strip_operations-requires-clause-marked
strip_operations-requires-clause-marked c =
    let ops = c.into_vec.ensures ∙ c.replace-ops.ensures.value in
    let counted = c.self.invariant.counted in
    omega (arith, ap (λ os. length (insertions os)) ops, ap length c.as_slice.ensures.value, counted)

pub strip_operations-requires-clause-texts : goal.strip_operations-requires-clause-texts
strip_operations-requires-clause-texts c =
    let ops = c.into_vec.ensures ∙ c.replace-ops.ensures.value in
    let own = subst (λ (w : Marked). All (λ (o : Operation). IsText o.insert) (thinned c.args.of.now.marks w.patch.ops w.marks)) (sym c.self.view_is) c.requires in
    let others = subst (λ (w : Marked). All (λ (o : Operation). IsText o.insert) (thinned w.marks c.self.inside.patch.ops c.self.inside.marks.items)) (sym c.of.view_is) own in
    let ops_same = subst (λ os. All (λ (o : Operation). IsText o.insert) (thinned c.of.inside.marks.items os c.self.inside.marks.items)) (sym ops) others in
    let gone_same = subst (λ ms. All (λ (o : Operation). IsText o.insert) (thinned ms c.into_vec.result.items c.self.inside.marks.items)) (sym c.as_slice-gone.ensures.value) ops_same in
    subst (λ ms. All (λ (o : Operation). IsText o.insert) (thinned c.as_slice-gone.result.now c.into_vec.result.items ms)) (sym c.as_slice.ensures.value) gone_same

pub returns-clause-different : goal.returns-clause-different
returns-clause-different c different =
    let once = subst (λ (w : Marked). NoRepeat w.marks) (sym c.self.view_is) different in
    subst (λ (w : Marked). NoRepeat w.marks) (sym (now_is c)) (NoRepeat-stripped (before c) (other c) once)
