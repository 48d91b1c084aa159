use Rattle.std.proofs.Common.{◌≡◌, length, map, sym, ◌∙◌, ap, subst}
use Rattle.pad_patch.specs.Piece.{text_after}
use Rattle.pad_patch.specs.declared.patch.Patch.{Patch}
use Rattle.pad_patch.specs.Misfit.{CanApply}
use Rattle.std.specs.Prelude.{All}
use Rattle.pad_merge.specs.Merge.{merged, CanMerge, IsNormal}
use Rattle.pad_list.specs.Number.{NoRepeat}
use Rattle.pad_stroke.specs.Mark.{NoneInBoth}
use Rattle.pad_stroke.specs.InTurn.{mark_from, NamesUnit, in_turn}
use Rattle.pad_stroke.specs.Work.{Marked, IsWork}
use Rattle.pad_stroke.proofs.Turns.{all_named, NoRepeat-in_turn, IsWork-in_turn, in_turn_is}
use Rattle.pad_stroke.proofs.work.Work.followed_by.Goals as goal
use Rattle.pad_stroke.proofs.work.Work.followed_by.Goals.{After-as_slice-2, In_ok-marks, After-drop-sourced-2}

pub marks_from-requires : goal.marks_from-requires
marks_from-requires c =
    let first : Marked = record { patch = c.self.inside.patch; marks = c.self.inside.marks.items } in
    let second : Marked = record { patch = c.args.patch.now; marks = c.args.marks.now } in
    let named = all_named first second c.args.len c.origins_name_units.ensures c.self.invariant.counted c.requires.counted in
    let there = subst (All (NamesUnit (length first.marks) (length second.marks))) (sym (c.as_slice.ensures ∙ c.in_ok-sourced.ensures.from)) named in
    subst (λ ms. All (NamesUnit (length ms) (length second.marks)) c.as_slice.result.now) (sym c.as_slice-2.ensures.value) there

marks_are : (c : In_ok-marks) → c.in_ok-marks.marks.items ≡ map (mark_from c.self.inside.marks.items c.args.marks.now) c.in_ok-sourced.sourced.from
marks_are c =
    c.in_ok-marks.ensures
    ∙ ap (λ ms. map (mark_from ms c.args.marks.now) c.as_slice.result.now) c.as_slice-2.ensures.value
    ∙ ap (map (mark_from c.self.inside.marks.items c.args.marks.now)) c.as_slice.ensures

is_work : (c : In_ok-marks) → IsWork (record { patch = c.in_ok-sourced.sourced.patch; marks = c.in_ok-marks.marks.items })
is_work c =
    let first : Marked = record { patch = c.self.inside.patch; marks = c.self.inside.marks.items } in
    let second : Marked = record { patch = c.args.patch.now; marks = c.args.marks.now } in
    let can = subst (λ (w : Marked). CanMerge w.patch second.patch c.args.len) (sym c.self.view_is) c.requires.can in
    let is = in_turn_is first second c.args.len c.in_ok-sourced.sourced.patch c.in_ok-sourced.sourced.from c.in_ok-marks.marks.items
    c.in_ok-sourced.ensures.merged c.in_ok-sourced.ensures.from (marks_are c) in
    let normal = subst IsNormal c.in_ok-sourced.ensures.merged c.in_ok-sourced.ensures.normal in
    subst IsWork (sym is)
    (IsWork-in_turn first second c.args.len c.origins_name_units.ensures c.self.invariant.counted c.requires.counted
    c.one_origin_each.ensures normal can c.self.invariant.texts c.requires.texts)

pub invariant_of-result : goal.invariant_of-result
invariant_of-result c = is_work c

pub returns-clause-work : goal.returns-clause-work
returns-clause-work c = is_work ((goal.at.returns-clause-work c).In_ok-marks)

pub returns-clause-in_turn : goal.returns-clause-in_turn
returns-clause-in_turn c =
    let at = (goal.at.returns-clause-in_turn c).In_ok-marks in
    let first : Marked = record { patch = c.self.inside.patch; marks = c.self.inside.marks.items } in
    let second : Marked = record { patch = c.args.patch.now; marks = c.args.marks.now } in
    in_turn_is first second c.args.len c.in_ok-sourced.sourced.patch c.in_ok-sourced.sourced.from c.in_ok-marks.marks.items
    c.in_ok-sourced.ensures.merged c.in_ok-sourced.ensures.from (marks_are at)
    ∙ ap (λ w. in_turn w second c.args.len) c.self.view_is

pub returns-clause-applies : goal.returns-clause-applies
returns-clause-applies c text size can_first can_second =
    let first = subst (λ (w : Marked). CanApply w.patch text) (sym c.self.view_is) can_first in
    let second = subst (λ (w : Marked). CanApply c.args.patch.now (text_after w.patch text)) (sym c.self.view_is) can_second in
    let applies = c.merged_applies.ensures c.self.inside.patch c.args.patch.now text first second in
    let there = subst (λ n. CanApply (merged c.self.inside.patch c.args.patch.now n) text) size applies in
    subst (λ (p : Patch). CanApply p text) (sym c.in_ok-sourced.ensures.merged) there

pub returns-clause-before : goal.returns-clause-before
unfolding merged
returns-clause-before c = ap (λ (p : Patch). p.before) c.in_ok-sourced.ensures.merged ∙ ap (λ (w : Marked). w.patch.before) c.self.view_is

pub returns-clause-different : goal.returns-clause-different
returns-clause-different c once_first once_second apart =
    let at = (goal.at.returns-clause-different c).In_ok-marks in
    let first : Marked = record { patch = c.self.inside.patch; marks = c.self.inside.marks.items } in
    let second : Marked = record { patch = c.args.patch.now; marks = c.args.marks.now } in
    let can = subst (λ (w : Marked). CanMerge w.patch second.patch c.args.len) (sym c.self.view_is) c.requires.can in
    let once = subst (λ (w : Marked). NoRepeat w.marks) (sym c.self.view_is) once_first in
    let none = subst (λ (w : Marked). NoneInBoth w.marks second.marks) (sym c.self.view_is) apart in
    subst NoRepeat (sym (marks_are at))
    (subst (λ os. NoRepeat (map (mark_from first.marks second.marks) os)) (sym c.in_ok-sourced.ensures.from)
    (NoRepeat-in_turn first second c.args.len c.origins_name_units.ensures c.self.invariant.counted c.requires.counted c.no_origin_twice.ensures can once once_second none))
