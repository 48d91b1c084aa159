-- Each run is an allowed edit where it is made.
use Rattle.std.proofs.Common.{◌≡◌, ℕ, zero, suc, ◌+◌, ◌-◌, ◌<◌, ◌≤◌, inl, inr, Bool, true, false, cond, List, [], ◌∷◌, ◌++◌, length, take, drop, refl, sym, ◌∙◌, ap, subst, arith, append_assoc}
use Rattle.std.specs.Prelude.{Option, slice_index}
use Rattle.std.specs.Char.Utf16.{is_high_surrogate, is_low_surrogate}
use Rattle.std.proofs.lemmas.List.{append-nil, take_all, length-append, length-take-le, length-drop, get_or_append_left}
use Rattle.pad_text.specs.Text.{CutsPair}
use Rattle.pad_patch.specs.declared.operation.Operation.{Operation}
use Rattle.pad_stroke.specs.declared.mark.Mark.{Mark}
use Rattle.pad_stroke.specs.Row.{Row}
use Rattle.pad_stroke.specs.Edit.{IsAllowed, shown_after}
use Rattle.pad_strokes.specs.Row.{is_of, is_unit_of, without, KeepsPairs}
use Rattle.pad_strokes.specs.Runs.{removal, closed, runs_from}
use Rattle.pad_strokes.specs.Removal.{removed_from, taken_out, CanTakeOut}
use Rattle.pad_strokes.specs.TakingOut.{EachMayFollow}
use Rattle.pad_strokes.proofs.Runs.{taken_out-append, size_more, takes_from, AreOpen, unit_left, unit_seam, open_more, none_open}

-- a pair that is cut within a common front
cut_in_front : (front back other : List ℕ) (place : ℕ) → place < length front → CutsPair (front ++ back) place → CutsPair (front ++ other) place
cut_in_front front back other place within cut =
    let after : 0 < place = cut.after_start in
    let left : (at : ℕ) → at < length front → (P : ℕ → Bool) → P (slice_index (front ++ back) at) ≡ true → P (slice_index (front ++ other) at) ≡ true =
    λ at below P is. ap P (get_or_append_left front other 0 at below ∙ sym (get_or_append_left front back 0 at below)) ∙ is in
    record {
      after_start = after;
      before_end = omega (arith, within, length-append front other);
      high = left (place - 1) (omega (arith, within)) is_high_surrogate cut.high;
      low = left place within is_low_surrogate cut.low;
    }

-- an operation that only removes, at places that cut no pair
plain_allowed : (text : List ℕ) (end count : ℕ) → count ≤ end → end ≤ length text → ¬ (CutsPair text (end - count)) → ¬ (CutsPair text (end - count + count)) → IsAllowed text (removal end count)
plain_allowed text end count within inside start stop = record {
  inside = λ behind. absurd (omega (arith, behind, inside, within));
  whole = λ cut. elim cut [ inl here ↦ start here | inr here ↦ stop here ];
  short = λ long. absurd (omega (arith, long.1, sizes));
}
  where
    sizes : length (shown_after (removal end count) text) ≤ length text
    sizes =
        omega (
          arith,
          length-append (take (end - count) text ++ []) (drop (end - count + count) text),
          length-append (take (end - count) text) [],
          length-take-le (end - count) text (omega (arith, within, inside)),
          length-drop (end - count + count) text,
          within,
          inside,
        )

shown_is : (text : List ℕ) (end count : ℕ) → shown_after (removal end count) text ≡ removed_from (removal end count) text
shown_is text end count = ap (λ us. us ++ drop (end - count + count) text) (append-nil (take (end - count) text))

can_append : (text : List ℕ) (first second : List Operation) → CanTakeOut text second → CanTakeOut (taken_out second text) first → CanTakeOut text (first ++ second)
can_append text [] second later earlier = later
can_append text (operation ∷ first) second later (before, allowed, shows) =
    let same = taken_out-append first second text in (
      can_append text first second later before,
      subst (λ us. IsAllowed us operation) (sym same) allowed,
      ap (shown_after operation) same ∙ shows ∙ ap (removed_from operation) (sym same),
    )

can_close : (text : List ℕ) (place run : ℕ) → run ≤ place → place ≤ length text → (0 < run → ¬ (CutsPair text (place - run))) → (0 < run → ¬ (CutsPair text place)) → CanTakeOut text (closed place run)
can_close text place zero within inside start stop = tt
can_close text place (suc count) within inside start stop =
    let end : place - suc count + suc count ≡ place = omega (arith, within) in
    let some : 0 < suc count = omega arith in (
      tt,
      plain_allowed text place (suc count) within inside (start some) (subst (λ n. ¬ (CutsPair text n)) (sym end) (stop some)),
      shown_is text place (suc count),
    )

-- the unit in front of the run is not of the stroke
abbrev IsClosedBefore : ℕ → ℕ → ℕ → Row → Type 0
IsClosedBefore stroke place run front = (at : ℕ) → at + 1 + run ≡ place → is_unit_of stroke front at ≡ false

-- where the run starts no pair is cut
start_whole : (stroke place run : ℕ) (front back : Row) (text : List ℕ) → length front ≡ place → run ≤ place → AreOpen stroke place run front → IsClosedBefore stroke place run front
    → KeepsPairs stroke (front ++ back) text → 0 < run → ¬ (CutsPair text (place - run))
start_whole stroke place run front back text size within are before keeps some cut =
    let after : 0 < place - run = cut.after_start in
    let at = place - run - 1 in
    let next : at + 1 ≡ place - run = omega (arith, after) in
    let kept = keeps at (subst (CutsPair text) (sym next) cut) in
    let first : is_unit_of stroke (front ++ back) at ≡ false = unit_left stroke front back at (omega (arith, size, after)) ∙ before at (omega (arith, after, within)) in
    let second : is_unit_of stroke (front ++ back) (at + 1) ≡ true =
    unit_left stroke front back (at + 1) (omega (arith, size, some, next, within)) ∙ are (at + 1) (omega (arith, next)) (omega (arith, next, some, within)) in
    differ (sym first ∙ kept ∙ second)
  where
    differ : false ≡ true → ⊥
    differ same = cc

-- nor where it ends, in front of a unit that is not of the stroke
end_whole : (stroke place run : ℕ) (front : Row) (entry : Option Mark) (back : Row) (text : List ℕ) → length front ≡ place → run ≤ place → AreOpen stroke place run front
    → is_of stroke entry ≡ false → KeepsPairs stroke (front ++ entry ∷ back) text → 0 < run → ¬ (CutsPair text place)
end_whole stroke place run front entry back text size within are other keeps some cut =
    let at = place - 1 in
    let next : at + 1 ≡ place = omega (arith, some, within) in
    let kept = keeps at (subst (CutsPair text) (sym next) cut) in
    let first : is_unit_of stroke (front ++ entry ∷ back) at ≡ true =
    unit_left stroke front (entry ∷ back) at (omega (arith, size, next)) ∙ are at (omega (arith, some, within)) (omega (arith, next)) in
    let second : is_unit_of stroke (front ++ entry ∷ back) (at + 1) ≡ false =
    ap (is_unit_of stroke (front ++ entry ∷ back)) next ∙ unit_seam stroke front entry back place size ∙ other in
    differ (sym first ∙ kept ∙ second)
  where
    differ : true ≡ false → ⊥
    differ same = cc

can_from : (stroke place run : ℕ) (front row : Row) (before after : List ℕ) → length front ≡ place → length before ≡ place → run ≤ place → length after ≡ length row
    → AreOpen stroke place run front → IsClosedBefore stroke place run front → KeepsPairs stroke (front ++ row) (before ++ after) → CanTakeOut (before ++ after) (runs_from stroke place run row)
can_from stroke place run front [] before [] size long within same are closed_before keeps =
    can_close (before ++ []) place run within (omega (arith, long, length-append before []))
    (start_whole stroke place run front [] (before ++ []) size within are closed_before keeps)
    (λ some cut. (let inside : place < length (before ++ []) = cut.before_end in absurd (omega (arith, inside, long, length-append before []))))
can_from stroke place run front [] before (unit ∷ units) size long within same are closed_before keeps = absurd (omega (arith, same))
can_from stroke place run front (entry ∷ row) before [] size long within same are closed_before keeps = absurd (omega (arith, same))
can_from stroke place run front (entry ∷ row) before (unit ∷ units) size long within same are closed_before keeps =
    step (is_of stroke entry) refl
    (λ count below opened shut kept. can_from stroke (place + 1) count (front ++ entry ∷ []) row (before ++ unit ∷ []) units (size_more front entry place size) (size_more before unit place long) below (omega (arith, same)) opened shut kept)
  where
    text : List ℕ
    text = before ++ unit ∷ units

    longer : List ℕ
    longer = before ++ unit ∷ []

    text_is : longer ++ units ≡ text
    text_is = append_assoc before (unit ∷ []) units

    longer_row : Row
    longer_row = front ++ entry ∷ []

    row_is : longer_row ++ row ≡ front ++ entry ∷ row
    row_is = append_assoc front (entry ∷ []) row

    longer_size : length longer ≡ place + 1
    longer_size = size_more before unit place long

    keeps_next : KeepsPairs stroke (longer_row ++ row) (longer ++ units)
    keeps_next = subst (λ r. KeepsPairs stroke r (longer ++ units)) (sym row_is) (subst (KeepsPairs stroke (front ++ entry ∷ row)) (sym text_is) keeps)

    Next : Type 0
    Next = (count : ℕ) → count ≤ place + 1 → AreOpen stroke (place + 1) count longer_row → IsClosedBefore stroke (place + 1) count longer_row → KeepsPairs stroke (longer_row ++ row) (longer ++ units)
        → CanTakeOut (longer ++ units) (runs_from stroke (place + 1) count row)

    from_next : Next → (count : ℕ) → count ≤ place + 1 → AreOpen stroke (place + 1) count longer_row → IsClosedBefore stroke (place + 1) count longer_row
        → CanTakeOut text (runs_from stroke (place + 1) count row)
    from_next next count below opened shut = subst (λ us. CanTakeOut us (runs_from stroke (place + 1) count row)) text_is (next count below opened shut keeps_next)

    left : List ℕ
    left = taken_out (runs_from stroke (place + 1) 0 row) text

    left_is : left ≡ longer ++ without stroke row units
    left_is =
        ap (taken_out (runs_from stroke (place + 1) 0 row)) (sym text_is)
        ∙ takes_from stroke (place + 1) 0 row longer units longer_size (omega arith) (omega (arith, same))
        ∙ ap (λ us. us ++ without stroke row units) (take_all (place + 1 - 0) longer (omega (arith, longer_size)))

    -- a pair that is cut in what is left is cut in the text
    cut_back : (at : ℕ) → at < place + 1 → CutsPair left at → CutsPair text at
    cut_back at below cut =
        subst (λ us. CutsPair us at) text_is
        (cut_in_front longer (without stroke row units) units at (omega (arith, below, longer_size)) (subst (λ us. CutsPair us at) left_is cut))

    step : (b : Bool) → is_of stroke entry ≡ b → Next
        → CanTakeOut text (cond b (runs_from stroke (place + 1) (run + 1) row) (closed place run ++ runs_from stroke (place + 1) 0 row))
    step true own next =
        from_next next (run + 1) (omega (arith, within)) (open_more stroke place run front entry size within are own)
        (λ at is. unit_left stroke front (entry ∷ []) at (omega (arith, is, size)) ∙ closed_before at (omega (arith, is)))
    step false other next =
        can_append text (closed place run) (runs_from stroke (place + 1) 0 row)
        (from_next next 0 (omega arith) (none_open stroke (place + 1) longer_row)
        (λ at is. (let here : at ≡ place = omega (arith, is) in ap (is_unit_of stroke longer_row) here ∙ unit_seam stroke front entry [] place size ∙ other)))
        (can_close left place run within (omega (arith, ap length left_is, length-append longer (without stroke row units), longer_size))
        (λ some cut. start_whole stroke place run front (entry ∷ row) text size within are closed_before keeps some (cut_back (place - run) (omega arith) cut))
        (λ some cut. end_whole stroke place run front entry row text size within are other keeps some (cut_back place (omega arith) cut)))

pub each_may_follow : EachMayFollow
each_may_follow stroke row text same keeps =
    can_from stroke 0 0 [] row [] text refl refl (omega arith) same (none_open stroke 0 []) (λ at is. absurd (omega (arith, is))) keeps
