-- A work that is taken back after a test.
use Rattle.std.proofs.Common.{◌≡◌, ℕ, zero, suc, ◌+◌, ◌-◌, ◌<◌, ◌≤◌, ◌⊎◌, inl, inr, IsTrue, Bool, true, false, List, [], ◌∷◌, ◌++◌, length, map, take, drop, refl, sym, ◌∙◌, ap, subst, arith}
use Rattle.std.specs.Prelude.{Option, Some, None, All, slice_get, slice_index}
use Rattle.std.specs.Option.{option_map}
use Rattle.std.specs.Char.Utf16.{is_high_surrogate, is_low_surrogate}
use Rattle.std.proofs.lemmas.List.{length-append, length-map, length-drop, length-take-le}
use Rattle.std.proofs.lemmas.Option.{slice_get-get_or, get_or_from_slice_get}
use Rattle.pad_text.specs.Text.{IsText, CutsPair}
use Rattle.pad_patch.specs.declared.operation.Operation.{Operation}
use Rattle.pad_patch.specs.declared.patch.Patch.{Patch}
use Rattle.pad_patch.specs.Piece.{end_of, pieces_from, patched_pieces, patched, insertions, inserted, length_after, text_after}
use Rattle.pad_patch.specs.Inverse.{inverse, inverse_operations}
use Rattle.pad_patch.specs.Misfit.{Overlaps, EndsAfter, CanApply}
use Rattle.pad_patch.proofs.CallerLemmas.{IsLaid, laid, IsLaid-before, map-patched, map-map, map-const, get-map, get_below, below_get, length-text_after, text_after-inverse, CanApply-inverse_all}
use Rattle.pad_merge.specs.UnitSource.{UnitSource, kept_at, new_unit, kept_from, sources_of, unit_of}
use Rattle.pad_merge.specs.CopiedUnit.{new_or_letter}
use Rattle.pad_merge.specs.Merge.{CutsNewPair, CutsInserted, CanMerge, IsTurned, AreTurned, CanMergeBack}
use Rattle.pad_merge.proofs.CallerLemmas.{CanMerge-CanApply, first_text, map-sources_after, map-kept_all}
use Rattle.pad_row.specs.TakenBack.{TakenBackApplies, InverseMergesBack}
use Rattle.pad_row.proofs.Units.{GoUp, go_up, low_after, high_before}

-- operations that remove the same ranges and insert as many units
abbrev AreAlike : List Operation → List Operation → Type 0
AreAlike [] [] = Unit {0}
AreAlike [] (other ∷ others) = ⊥
AreAlike (operation ∷ operations) [] = ⊥
AreAlike (operation ∷ operations) (other ∷ others) =
    (operation.offset ≡ other.offset) × (operation.remove ≡ other.remove) × (length operation.insert ≡ length other.insert) × AreAlike operations others

same_start : (inserted removed start back : ℕ) → back ≡ start + inserted - removed → removed ≤ start → start ≡ back + removed - inserted
same_start inserted removed start back is below = omega (arith, is, below)

-- those that take back what took others back are alike to those
alike : (inserted removed size low : ℕ) (text : List ℕ) (operations backs : List Operation) → AreTurned inserted removed operations backs → IsLaid removed size operations → IsLaid low (length text) backs
    → AreAlike operations (inverse_operations removed inserted text backs)
alike inserted removed size low text [] [] turned laid_out laid_backs = tt
alike inserted removed size low text [] (back ∷ backs) turned laid_out laid_backs = turned
alike inserted removed size low text (operation ∷ operations) [] turned laid_out laid_backs = turned
alike inserted removed size low text (operation ∷ operations) (back ∷ backs) (is, turned) (starts, inside, rest) (back_starts, back_inside, back_rest) =
    let removes = is.removes in
    let inserts = is.inserts in
    let out : length (take (end_of back - back.offset) (drop back.offset text)) ≡ back.remove =
    length-take-le (end_of back - back.offset) (drop back.offset text) (omega (arith, back_inside, length-drop back.offset text)) ∙ omega arith in
    let later = alike (inserted + length operation.insert) (removed + operation.remove) size (end_of back) text operations backs turned
    (IsLaid-before (removed + operation.remove) (end_of operation) size operations (omega (arith, starts)) rest) back_rest in (
      same_start inserted removed operation.offset back.offset is.starts starts,
      sym inserts,
      sym removes ∙ sym out,
      subst (λ n. AreAlike operations (inverse_operations n (inserted + back.remove) text backs)) (ap (λ n. removed + n) (sym inserts))
          (subst (λ n. AreAlike operations (inverse_operations (removed + operation.remove) n text backs)) (ap (λ n. inserted + n) (sym removes)) later),
    )

-- alike operations copy alike
same_copy : {A : Type 0} (old new : List A) (place size : ℕ) (operations others : List Operation) → AreAlike operations others
    → patched_pieces old new (pieces_from place size operations) ≡ patched_pieces old new (pieces_from place size others)
same_copy old new place size [] [] same = refl
same_copy old new place size [] (other ∷ others) same = absurd same
same_copy old new place size (operation ∷ operations) [] same = absurd same
same_copy old new place size (operation ∷ operations) (other ∷ others) (starts, removes, counts, later) =
    let ends : end_of operation ≡ end_of other = omega (arith, starts, removes) in
    let rest = drop (length operation.insert) new in
    ap (λ n. take (n - place) (drop place old) ++ (take (length operation.insert) new ++ patched_pieces old rest (pieces_from (end_of operation) size operations))) starts
    ∙ ap (λ xs. take (other.offset - place) (drop place old) ++ (take (length operation.insert) new ++ xs)) (same_copy old rest (end_of operation) size operations others later)
    ∙ ap (λ n. take (other.offset - place) (drop place old) ++ (take (length operation.insert) new ++ patched_pieces old rest (pieces_from n size others))) ends
    ∙ ap (λ n. take (other.offset - place) (drop place old) ++ (take n new ++ patched_pieces old (drop n new) (pieces_from (end_of other) size others))) counts

same_count : (operations others : List Operation) → AreAlike operations others → length (insertions operations) ≡ length (insertions others)
same_count [] [] same = refl
same_count [] (other ∷ others) same = absurd same
same_count (operation ∷ operations) [] same = absurd same
same_count (operation ∷ operations) (other ∷ others) (starts, removes, counts, later) =
    omega (arith, counts, same_count operations others later, length-append operation.insert (insertions operations), length-append other.insert (insertions others))

record Alike (operation : Operation) (others : List Operation) (index : ℕ) : Type 0 where
  other : Operation
  stands : slice_get others index ≡ Some other
  starts : operation.offset ≡ other.offset
  ends : end_of operation ≡ end_of other

alike_at : (operations others : List Operation) (index : ℕ) (operation : Operation) → AreAlike operations others → slice_get operations index ≡ Some operation → Alike operation others index
alike_at [] others index operation same is = cc
alike_at (first ∷ operations) [] index operation same is = absurd same
alike_at (first ∷ operations) (other ∷ others) zero operation (starts, removes, counts, later) is =
    let here : first ≡ operation = cc in
    record {
      other = other;
      stands = refl;
      starts = ap (λ (o : Operation). o.offset) (sym here) ∙ starts;
      ends = ap end_of (sym here) ∙ omega (arith, starts, removes);
    }
alike_at (first ∷ operations) (other ∷ others) (suc index) operation (starts, removes, counts, later) is =
    let found = alike_at operations others index operation later is in
    record { other = found.other; stands = found.stands; starts = found.starts; ends = found.ends }

-- which units of a copy are kept, and from where
abbrev kind_of : UnitSource → Option ℕ
kind_of (kept_at place) = Some place
kind_of (new_unit unit) = None

same_kinds : (first second : Patch) (size : ℕ) → AreAlike first.ops second.ops → map kind_of (sources_of first size) ≡ map kind_of (sources_of second size)
same_kinds first second size same =
    let old = kept_from 0 size in
    let kinds = map kind_of old in
    map-patched kind_of first (map new_unit (inserted first)) old
    ∙ ap (λ xs. patched first xs kinds) (map-map kind_of new_unit (inserted first) ∙ map-const None (inserted first) (inserted second) (same_count first.ops second.ops same))
    ∙ same_copy kinds (map (λ _. None) (inserted second)) 0 (length kinds) first.ops second.ops same
    ∙ ap (λ xs. patched second xs kinds) (sym (map-map kind_of new_unit (inserted second)))
    ∙ sym (map-patched kind_of second (map new_unit (inserted second)) old)

kept_there : (o : Option UnitSource) (place : ℕ) → option_map kind_of o ≡ Some (Some place) → o ≡ Some (kept_at place)
kept_there None place is = cc
kept_there (Some (kept_at own)) place is = let same : own ≡ place = cc in ap (λ n. Some (kept_at n)) same
kept_there (Some (new_unit unit)) place is = let never : None ≡ Some place = cc in cc

-- the text after a patch, read off its sources
units_read : (patch : Patch) (text : List ℕ) → map (unit_of text) (sources_of patch (length text)) ≡ text_after patch text
units_read patch text = map-sources_after (unit_of text) patch (kept_from 0 (length text)) (λ unit. refl) ∙ ap (text_after patch) (map-kept_all text (length text) refl)

read_at : (patch : Patch) (text : List ℕ) (at : ℕ) (source : UnitSource) → slice_get (sources_of patch (length text)) at ≡ Some source → slice_get (text_after patch text) at ≡ Some (unit_of text source)
read_at patch text at source is =
    ap (λ us. slice_get us at) (sym (units_read patch text)) ∙ get-map (unit_of text) (sources_of patch (length text)) at ∙ ap (option_map (unit_of text)) is

same_some : (o : Option ℕ) (first second : ℕ) → o ≡ Some first → o ≡ Some second → first ≡ second
same_some o first second is also = let same : Some first ≡ Some second = sym is ∙ also in cc

-- a pair of the text after a patch is one that the patch inserts, or one of the text after an alike patch
module _ (first second : Patch) (before : List ℕ) (same : AreAlike first.ops second.ops) (texts : All (λ (operation : Operation). IsText operation.insert) first.ops) where
  up : GoUp false (map new_or_letter (sources_of first (length before)))
  up = go_up (map new_or_letter (sources_of first (length before))) (first_text first (length before) texts)

  letter_at : (at : ℕ) (source : UnitSource) → slice_get (sources_of first (length before)) at ≡ Some source → slice_get (map new_or_letter (sources_of first (length before))) at ≡ Some (new_or_letter source)
  letter_at at source is = get-map new_or_letter (sources_of first (length before)) at ∙ ap (option_map new_or_letter) is

  -- a kept unit is the same after both
  kept_same : (at place unit : ℕ) → slice_get (sources_of first (length before)) at ≡ Some (kept_at place) → slice_get (text_after first before) at ≡ Some unit → slice_get (text_after second before) at ≡ Some unit
  kept_same at place unit is here =
      let there = kept_there (slice_get (sources_of second (length before)) at) place
      (sym (get-map kind_of (sources_of second (length before)) at) ∙ ap (λ xs. slice_get xs at) (sym (same_kinds first second (length before) same)) ∙ get-map kind_of (sources_of first (length before)) at ∙ ap (option_map kind_of) is) in
      read_at second before at (kept_at place) there ∙ sym (read_at first before at (kept_at place) is) ∙ here

  new_is : (at own unit : ℕ) → slice_get (sources_of first (length before)) at ≡ Some (new_unit own) → slice_get (text_after first before) at ≡ Some unit → own ≡ unit
  new_is at own unit is here = same_some (slice_get (text_after first before) at) own unit (read_at first before at (new_unit own) is) here

  pair_of : (at high low : ℕ) (one other : UnitSource) → slice_get (sources_of first (length before)) at ≡ Some one → slice_get (sources_of first (length before)) (suc at) ≡ Some other
      → slice_get (text_after first before) at ≡ Some high → slice_get (text_after first before) (suc at) ≡ Some low → is_high_surrogate high ≡ true → is_low_surrogate low ≡ true
      → ((slice_get (text_after second before) at ≡ Some high) × (slice_get (text_after second before) (suc at) ≡ Some low)) ⊎ CutsInserted first (length before) (suc at)
  pair_of at high low (kept_at place) (kept_at next) is_one is_other at_high at_low told_high told_low = inl (kept_same at place high is_one at_high, kept_same (suc at) next low is_other at_low)
  pair_of at high low (new_unit own) (new_unit next) is_one is_other at_high at_low told_high told_low =
      inr (record {
        before = at;
        follows = omega arith;
        first = high;
        second = low;
        first_stands = is_one ∙ ap (λ u. Some (new_unit u)) (new_is at own high is_one at_high);
        second_stands = is_other ∙ ap (λ u. Some (new_unit u)) (new_is (suc at) next low is_other at_low);
        high = told_high;
        low = told_low;
      })
  pair_of at high low (new_unit own) (kept_at next) is_one is_other at_high at_low told_high told_low =
      let found = low_after (map new_or_letter (sources_of first (length before))) false at own up (letter_at at (new_unit own) is_one) (ap is_high_surrogate (new_is at own high is_one at_high) ∙ told_high) in
      let letter = same_some (slice_get (map new_or_letter (sources_of first (length before))) (suc at)) found.0 0x61 found.1 (letter_at (suc at) (kept_at next) is_other) in
      let never : is_low_surrogate 0x61 ≡ true = ap is_low_surrogate (sym letter) ∙ found.2 in
      absurd (no_letter never)
    where
      no_letter : false ≡ true → ⊥
      no_letter is = cc
  pair_of at high low (kept_at place) (new_unit next) is_one is_other at_high at_low told_high told_low =
      let found = high_before (map new_or_letter (sources_of first (length before))) false (suc at) next up (letter_at (suc at) (new_unit next) is_other)
      (ap is_low_surrogate (new_is (suc at) next low is_other at_low) ∙ told_low) (inl refl) in
      let here : found.0 ≡ at = omega (arith, found.2) in
      let letter = same_some (slice_get (map new_or_letter (sources_of first (length before))) at) found.1 0x61 (ap (slice_get (map new_or_letter (sources_of first (length before)))) (sym here) ∙ found.3) (letter_at at (kept_at place) is_one) in
      let never : is_high_surrogate 0x61 ≡ true = ap is_high_surrogate (sym letter) ∙ found.4 in
      absurd (no_letter never)
    where
      no_letter : false ≡ true → ⊥
      no_letter is = cc

  source_at : (at unit : ℕ) → slice_get (text_after first before) at ≡ Some unit → (source : UnitSource) × (slice_get (sources_of first (length before)) at ≡ Some source)
  source_at at unit is =
      get_below (sources_of first (length before)) at
      (omega (arith, below_get unit (text_after first before) at is, ap length (units_read first before), length-map (sources_of first (length before)) (unit_of before)))

  cut_case : (place : ℕ) → CutsPair (text_after first before) place → ¬ (CutsPair (text_after second before) place) → ¬ (CutsInserted first (length before) place) → ⊥
  cut_case place cut whole uncut =
      let units = text_after first before in
      let at = place - 1 in
      let follows : suc at ≡ place = omega (arith, cut.after_start) in
      let end = cut.before_end in
      let at_high : slice_get units at ≡ Some (slice_index units at) = slice_get-get_or units at 0 (omega (arith, end)) in
      let at_low : slice_get units (suc at) ≡ Some (slice_index units place) = ap (slice_get units) follows ∙ slice_get-get_or units place 0 end in
      let one = source_at at (slice_index units at) at_high in
      let other = source_at (suc at) (slice_index units place) at_low in
      elim (pair_of at (slice_index units at) (slice_index units place) one.0 other.0 one.1 other.1 at_high at_low cut.high cut.low) [
        | inl there ↦
            let low_there = ap (slice_get (text_after second before)) (sym follows) ∙ there.1 in
            whole (record {
              after_start = cut.after_start;
              before_end = below_get (slice_index units place) (text_after second before) place low_there;
              high = ap is_high_surrogate (get_or_from_slice_get (text_after second before) at (slice_index units at) 0 there.0) ∙ cut.high;
              low = ap is_low_surrogate (get_or_from_slice_get (text_after second before) place (slice_index units place) 0 low_there) ∙ cut.low;
            })
        | inr inserts ↦ uncut (subst (CutsInserted first (length before)) follows inserts)
      ]

alike_back : (first back second : Patch) (text : List ℕ) → CanApply back text → CanMergeBack first back second (length (text_after back text)) → AreAlike first.ops (inverse back text).ops
unfolding inverse
alike_back first back second text can merges =
    alike 0 0 (length (text_after back text)) 0 text first.ops back.ops merges.turned
    (laid first (length (text_after back text)) merges.merges.first_ordered merges.merges.first_inside) (laid back (length text) can.ordered can.inside)

pub taken_back_applies : TakenBackApplies
taken_back_applies first back second text is_text texts back_texts can_back can_second merges =
    let undo = inverse back text in
    let before = text_after back text in
    let same = alike_back first back second text can_back merges in
    let can_undo = CanApply-inverse_all back text is_text back_texts can_back in
    let again : text_after undo before ≡ text = text_after-inverse back text can_back.ordered can_back.inside in
    let can = merges.merges in
    let long : length (text_after first before) ≡ length_after first (length before) = length-text_after first before can.first_inside in (
      record {
        ordered = can.first_ordered;
        inside = can.first_inside;
        whole = λ index (operation, is, cut).
            let found = alike_at first.ops undo.ops index operation same is in
            elim cut [
              | inl start ↦ can_undo.whole index (found.other, found.stands, inl (subst (CutsPair before) found.starts start))
              | inr end ↦ can_undo.whole index (found.other, found.stands, inr (subst (CutsPair before) found.ends end))
            ];
      },
      record {
        ordered = can.second_ordered;
        inside = subst (λ n. (index : ℕ) → ¬ (EndsAfter second n index)) (sym long) can.second_inside;
        whole = λ index (operation, is, cut). elim cut [
          | inl start ↦ cut_case first undo before same texts operation.offset start
              (λ there. can_second.whole index (operation, is, inl (subst (λ us. CutsPair us operation.offset) again there))) (can.starts_whole index operation is)
          | inr end ↦ cut_case first undo before same texts (end_of operation) end
              (λ there. can_second.whole index (operation, is, inr (subst (λ us. CutsPair us (end_of operation)) again there))) (can.ends_whole index operation is)
        ];
      },
    )

-- the operations of an inverse are turned
turned_inverse : (inserted removed size place : ℕ) (text : List ℕ) (operations : List Operation) → size ≡ length text → IsLaid place size operations → AreTurned inserted removed operations (inverse_operations inserted removed text operations)
turned_inverse inserted removed size place text [] long laid_out = tt
turned_inverse inserted removed size place text (operation ∷ operations) long (starts, inside, rest) = (
  record {
    starts = refl;
    removes = refl;
    inserts = length-take-le (end_of operation - operation.offset) (drop operation.offset text) (omega (arith, inside, long, length-drop operation.offset text)) ∙ omega arith;
  },
  turned_inverse (inserted + length operation.insert) (removed + operation.remove) size (end_of operation) text operations long rest,
)

pub inverse_merges_back : InverseMergesBack
unfolding inverse
inverse_merges_back first second text can_first can_second = record {
  merges = CanMerge-CanApply first second text can_first can_second;
  turned = turned_inverse 0 0 (length text) 0 text first.ops refl (laid first (length text) can_first.ordered can_first.inside);
}
