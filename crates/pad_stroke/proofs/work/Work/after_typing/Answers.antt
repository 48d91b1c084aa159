use Rattle.std.proofs.Common.{◌≡◌, ℕ, List, [], ◌∷◌, ◌++◌, length, sym, ◌∙◌, ap, subst}
use Rattle.pad_patch.specs.declared.patch.Patch.{Patch}
use Rattle.pad_patch.specs.Piece.{inserted}
use Rattle.pad_merge.specs.Merge.{CanMerge}
use Rattle.pad_list.specs.Number.{NoRepeat}
use Rattle.pad_stroke.specs.Mark.{NoneInBoth, marks_of}
use Rattle.pad_stroke.specs.Work.{Marked}
use Rattle.pad_stroke.specs.Edit.{typed}
use Rattle.pad_stroke.proofs.Turns.{typed_is, length-typed, NoRepeat-marks_of, NoneInBoth-fresh}
use Rattle.std.specs.Prelude.{All, IfOk, Result, Ok, Err}
use Rattle.std.proofs.lemmas.List.Elements.{All-nil, All-cons}
use Rattle.pad_text.specs.Text.{IsText}
use Rattle.pad_patch.specs.declared.operation.Operation.{Operation}
use Rattle.pad_stroke.proofs.work.Work.after_typing.Goals as goal
use Rattle.pad_stroke.proofs.work.Work.after_typing.Goals.{After-as_slice}

abbrev InsertsText : Operation → Type 0
InsertsText operation = IsText operation.insert

patch_is : (c : After-as_slice) → record { ops = c.new.result; before = c.self.inside.patch.before } ≡ (typed c.args.self.now c.args.op c.args.stroke).patch
patch_is c =
    typed_is c.args.self.now c.args.op c.args.stroke c.new.result c.self.inside.patch.before
    (c.new.ensures ∙ c.in_ok-push.ensures.items ∙ ap (λ os. os ++ c.args.op ∷ []) c.new-ops.ensures.items)
    (ap (λ (w : Marked). w.patch.before) c.self.view_is)

marks_are : (c : After-as_slice) → c.as_slice.result.now ≡ marks_of c.args.stroke (length c.args.op.insert)
marks_are c = c.as_slice.ensures.value ∙ c.in_ok-marks.ensures ∙ ap (λ (us : List ℕ). marks_of c.args.stroke (length us)) c.as_units.ensures.units

pub followed_by-requires-clause-can : goal.followed_by-requires-clause-can
followed_by-requires-clause-can c = subst (λ (p : Patch). CanMerge c.args.self.now.patch p c.args.len) (sym (patch_is c)) c.requires.can

pub followed_by-requires-clause-counted : goal.followed_by-requires-clause-counted
followed_by-requires-clause-counted c =
    ap length (marks_are c) ∙ length-typed c.args.self.now c.args.op c.args.stroke ∙ ap (λ (p : Patch). length (inserted p)) (sym (patch_is c))

pub followed_by-requires-clause-texts : goal.followed_by-requires-clause-texts
followed_by-requires-clause-texts c =
    subst (λ (p : Patch). All InsertsText p.ops) (sym (patch_is c))
    (All-cons InsertsText c.args.op [] c.as_units.ensures.text (All-nil InsertsText))

ok_map : {T E : Type 0} (r : Result T E) (P Q : T → Type 0) → ((x : T) → P x → Q x) → IfOk r P → IfOk r Q
ok_map (Ok x) P Q f p = f x p
ok_map (Err e) P Q f p = p

pub returns-clause-different : goal.returns-clause-different
returns-clause-different c =
    let at = (goal.at.returns-clause-different c).After-as_slice in
    ok_map c.followed_by.result _ _
    (λ work once different. once different (subst NoRepeat (sym (marks_are at)) (NoRepeat-marks_of c.args.stroke (length c.args.op.insert)))
    (subst (NoneInBoth c.args.self.now.marks) (sym (marks_are at)) (NoneInBoth-fresh c.args.self.now.marks c.args.stroke (length c.args.op.insert) c.requires.fresh)))
    c.followed_by.ensures.different
