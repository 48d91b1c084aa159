-- What is true of carried and stripped works, whether or not they are in normal form.
use Rattle.std.proofs.Common.{◌≡◌, ℕ, suc, ◌+◌, ◌<◌, ◌≤◌, ◌⊎◌, inl, inr, Bool, true, false, cond, List, [], ◌∷◌, length, drop, refl, sym, ◌∙◌, ap, subst, arith}
use Rattle.std.specs.Prelude.{All, Some, filter, slice_get}
use Rattle.std.specs.List.{filter_map}
use Rattle.pad_text.specs.Text.{IsText, CutsPair}
use Rattle.pad_text.specs.declared.name.Name.{Name}
use Rattle.pad_patch.specs.declared.operation.Operation.{Operation}
use Rattle.pad_patch.specs.declared.patch.Patch.{Patch}
use Rattle.pad_patch.specs.Piece.{end_of, text_after, inserted, insertions}
use Rattle.pad_patch.specs.Misfit.{CanApply}
use Rattle.pad_patch.specs.Removed.{Removes}
use Rattle.pad_patch.proofs.CallerLemmas.{IsLaid, laid, IsLaid-before, Whole, CanApply-laid}
use Rattle.pad_transform.specs.Table.{transformed_all, through}
use Rattle.pad_transform.specs.Carried.{BothApply, RemovesOnlyKept}
use Rattle.pad_transform.proofs.CallerLemmas.{CanApply-moved, inserted-moved, RemovesOnlyKept-moved}
use Rattle.pad_stroke.specs.declared.mark.Mark.{Mark}
use Rattle.pad_stroke.specs.Through.{together, in_front, joined, carried}
use Rattle.pad_stroke.specs.Strip.{stays, staying, thinned, is_needed, stripped}
use Rattle.pad_stroke.specs.Work.{Marked}
use Rattle.pad_stroke.proofs.Joints.{IsFront, touching, apart, front_cases, insertions-joined}
use Rattle.pad_stroke.proofs.Carrying.{joint_of, removes_joined, InsertsText, texts-transformed, texts-joined}
use Rattle.pad_stroke.proofs.Stripped.{part_of, insertions-filter, insertions-thinned, length-staying, all_filter}

-- joined operations stand in order where the operations do
laid_by : (low size : ℕ) (operation next : Operation) (later front : List Operation) → IsFront operation next later front → low ≤ operation.offset → IsLaid (end_of operation) size (next ∷ later) → end_of operation ≤ size
    → IsLaid low size front
laid_by low size operation next later front (touching same is) starts (next_starts, next_inside, rest) inside =
    let end : end_of next ≡ end_of (together operation next) = omega arith in
    subst (IsLaid low size) (sym is) (starts, omega (arith, next_inside, end), subst (λ n. IsLaid n size later) end rest)
laid_by low size operation next later front (apart other is) starts rest inside = subst (IsLaid low size) (sym is) (starts, inside, rest)

laid_in_front : (low size : ℕ) (operation : Operation) (later : List Operation) → low ≤ operation.offset → end_of operation ≤ size → IsLaid (end_of operation) size later → IsLaid low size (in_front operation later)
laid_in_front low size operation [] starts inside rest = (starts, inside, rest)
laid_in_front low size operation (next ∷ later) starts inside rest =
    laid_by low size operation next later (in_front operation (next ∷ later)) (front_cases operation next later) starts rest inside

laid-joined : (low size : ℕ) (operations : List Operation) → IsLaid low size operations → IsLaid low size (joined operations)
laid-joined low size [] laid_out = laid_out
laid-joined low size (operation ∷ operations) (starts, inside, rest) =
    laid_in_front low size operation (joined operations) starts inside (laid-joined (end_of operation) size operations rest)

-- the transformed patch
moved_patch : Marked → Patch → Name → Patch
moved_patch work by after = record { ops = transformed_all work.patch by; before = after }

pub carried_applies : (work : Marked) (by : Patch) (after : Name) (text : List ℕ) → All (λ (operation : Operation). IsText operation.insert) by.ops → BothApply work.patch by text
    → CanApply (carried work by after).patch (text_after by text)
unfolding carried moved_patch
carried_applies work by after text texts both =
    let moved = moved_patch work by after in
    let can = CanApply-moved moved work.patch by refl text (λ _. texts) both in
    let changed = text_after by text in
    CanApply-laid (carried work by after).patch changed (laid-joined 0 (length changed) moved.ops (laid moved (length changed) can.ordered can.inside))
    (λ index joint is.
    let found = joint_of moved.ops index joint is in (
      (λ cut. can.whole found.first_index (found.first, found.first_is, inl (subst (CutsPair changed) found.starts cut))),
      (λ cut. can.whole found.last_index (found.last, found.last_is, inr (subst (CutsPair changed) found.ends cut))),
    ))

pub carried_removes : (work : Marked) (by : Patch) (after : Name) (text : List ℕ) → BothApply work.patch by text → RemovesOnlyKept (carried work by after).patch work.patch by text
unfolding carried moved_patch
carried_removes work by after text both place (index, joint, is_joint, first, last) =
    let moved = moved_patch work by after in
    let removes = removes_joined moved.ops place (index, joint, is_joint, first, last) in
    RemovesOnlyKept-moved moved work.patch by refl text both place (removes.0, removes.1, removes.2, removes.3, removes.4)

pub carried_inserted : (work : Marked) (by : Patch) (after : Name) → inserted (carried work by after).patch ≡ inserted work.patch
unfolding carried moved_patch
carried_inserted work by after = insertions-joined (transformed_all work.patch by) ∙ inserted-moved (moved_patch work by after) work.patch by refl

pub carried_marks : (work : Marked) (by : Patch) (after : Name) → (carried work by after).marks ≡ work.marks
unfolding carried
carried_marks work by after = refl

-- thinned operations stand where the operations do
laid-thinned : (gone : List Mark) (low size : ℕ) (operations : List Operation) (marks : List Mark) → IsLaid low size operations → IsLaid low size (filter is_needed (thinned gone operations marks))
laid-thinned gone low size [] marks laid_out = laid_out
laid-thinned gone low size (operation ∷ operations) marks (starts, inside, rest) =
    let thin : Operation = record operation { insert = staying gone operation.insert marks } in
    by_test thin (filter is_needed (thinned gone operations (drop (length operation.insert) marks))) (is_needed thin) starts inside
    (laid-thinned gone (end_of operation) size operations (drop (length operation.insert) marks) rest)
  where
    by_test : (thin : Operation) (later : List Operation) (test : Bool) → low ≤ thin.offset → end_of thin ≤ size → IsLaid (end_of thin) size later → IsLaid low size (cond test (thin ∷ later) later)
    by_test thin later true starts inside rest = (starts, inside, rest)
    by_test thin later false starts inside rest = IsLaid-before low (end_of thin) size later (omega arith) rest

pub stripped_applies : (work of : Marked) (text : List ℕ) → CanApply work.patch text → CanApply (stripped work of).patch text
unfolding stripped
stripped_applies work of text can =
    CanApply-laid (stripped work of).patch text (laid-thinned of.marks 0 (length text) work.patch.ops work.marks (laid work.patch (length text) can.ordered can.inside))
    (λ index part is.
    let found = part_of of.marks work.patch.ops work.marks index part is in
    let ends : end_of part ≡ end_of found.whole = omega (arith, found.starts, found.removes) in (
      (λ cut. can.whole found.index (found.whole, found.stands, inl (subst (CutsPair text) found.starts cut))),
      (λ cut. can.whole found.index (found.whole, found.stands, inr (subst (CutsPair text) ends cut))),
    ))

pub stripped_removes : (work of : Marked) (place : ℕ) → Removes (stripped work of).patch place → Removes work.patch place
unfolding stripped
stripped_removes work of place (index, part, is, from, below) =
    let found = part_of of.marks work.patch.ops work.marks index part is in
    (found.index, found.whole, found.stands, omega (arith, found.starts, from), omega (arith, found.starts, found.removes, below))

pub stripped_counted : (work of : Marked) → length work.marks ≡ length (inserted work.patch) → length (stripped work of).marks ≡ length (inserted (stripped work of).patch)
unfolding stripped
stripped_counted work of counted =
    let thin = thinned of.marks work.patch.ops work.marks in
    sym (ap length (insertions-filter thin ∙ insertions-thinned of.marks work.patch.ops work.marks (omega (arith, counted))) ∙ length-staying of.marks (insertions work.patch.ops) work.marks (sym counted))

pub stripped_is_filter : (work of : Marked) → (stripped work of).marks ≡ filter (stays of.marks) work.marks
unfolding stripped
stripped_is_filter work of = refl

pub carried_texts : (work : Marked) (by : Patch) (after : Name) → All InsertsText work.patch.ops → All InsertsText (carried work by after).patch.ops
unfolding carried
carried_texts work by after texts = texts-joined (transformed_all work.patch by) (texts-transformed by.ops work.patch.ops texts)

pub stripped_texts : (work of : Marked) → All InsertsText (thinned of.marks work.patch.ops work.marks) → All InsertsText (stripped work of).patch.ops
unfolding stripped
stripped_texts work of texts = all_filter (thinned of.marks work.patch.ops work.marks) texts

pub stripped_inserted : (work of : Marked) → length work.marks ≡ length (inserted work.patch) → inserted (stripped work of).patch ≡ staying of.marks (inserted work.patch) work.marks
unfolding stripped
stripped_inserted work of counted =
    insertions-filter (thinned of.marks work.patch.ops work.marks) ∙ insertions-thinned of.marks work.patch.ops work.marks (omega (arith, counted))
