-- Where neither patch cuts a pair of its text, the merge cuts none either.
use Rattle.std.proofs.Common.{◌≡◌, ℕ, zero, suc, ◌+◌, ◌-◌, ◌<◌, ◌≤◌, ◌⊎◌, inl, inr, Some, List, [], ◌∷◌, ◌++◌, length, map, take, drop, refl, sym, ◌∙◌, ap, subst, arith, append_assoc}
use Rattle.std.specs.Prelude.{slice_get, slice_index}
use Rattle.std.specs.List.{flat_map}
use Rattle.std.proofs.lemmas.List.{append-nil, take_all, length-append, length-drop, length-map, map-append, take-append-drop}
use Rattle.std.proofs.Math.Seq.{get_or-append_seam}
use Rattle.std.proofs.Math.ListN.{get_or-append}
use Rattle.pad_text.specs.Text.{CutsPair}
use Rattle.pad_patch.specs.declared.operation.Operation.{Operation}
use Rattle.pad_patch.specs.declared.patch.Patch.{Patch}
use Rattle.pad_patch.specs.Piece.{end_of, pieces_from, text_after}
use Rattle.pad_patch.specs.Misfit.{CutsPairAt, CanApply}
use Rattle.pad_patch.proofs.CallerLemmas.{IsLaid, laid, ordered_laid, inside_laid, range-drop}
use Rattle.pad_merge.specs.UnitSource.{UnitSource, kept_at, new_unit, kept_from, sources_after, sources_of, unit_of, IsAscending}
use Rattle.pad_merge.specs.Merge.{gap, operations_between, merged}
use Rattle.pad_merge.proofs.Sources.{sources_of_piece, sources-pieces, map-sources_after, map-kept_all, length-kept_from}
use Rattle.pad_merge.proofs.Reading.{none, one, gap_cases, replacing}
use Rattle.pad_merge.proofs.Both.{laid-merged, laid_second, rising_both}
use Rattle.pad_merge.proofs.Readback.{gap-none}
use Rattle.pad_merge.proofs.Applied.{CanMerge-CanApply}

-- no pair of the text is cut here
abbrev IsWhole : List ℕ → ℕ → Type 0
IsWhole text place = ¬ (CutsPair text place)

whole_start : (text : List ℕ) → IsWhole text 0
whole_start text cut = omega (arith, cut.after_start)

whole_end : (text : List ℕ) (size : ℕ) → length text ≡ size → IsWhole text size
whole_end text size is cut = omega (arith, cut.before_end)

-- pairs of the text stay together, where the place behind the unit in front is `seen`, or 0 where that unit is no unit of the text
abbrev StayTogether : List ℕ → ℕ → List UnitSource → Type 0
StayTogether text seen [] = IsWhole text seen
StayTogether text seen (kept_at place ∷ sources) = ((seen ≡ place) ⊎ (IsWhole text seen × IsWhole text place)) × StayTogether text (suc place) sources
StayTogether text seen (new_unit unit ∷ sources) = IsWhole text seen × StayTogether text 0 sources

-- the place behind the last one
abbrev seen_after : ℕ → List UnitSource → ℕ
seen_after seen [] = seen
seen_after seen (kept_at place ∷ sources) = seen_after (suc place) sources
seen_after seen (new_unit unit ∷ sources) = seen_after 0 sources

-- parts that are cut nowhere, one behind the other
together_join : (text : List ℕ) (seen : ℕ) (xs ys : List UnitSource) → StayTogether text seen xs → StayTogether text 0 ys → StayTogether text seen (xs ++ ys)
together_join text seen [] [] first second = first
together_join text seen [] (kept_at place ∷ ys) first second = elim second.0 [
  | inl same ↦ (inr (first, subst (IsWhole text) same (whole_start text)), second.1)
  | inr whole ↦ (inr (first, whole.1), second.1)
]
together_join text seen [] (new_unit unit ∷ ys) first second = (first, second.1)
together_join text seen (kept_at place ∷ xs) ys first second = (first.0, together_join text (suc place) xs ys first.1 second)
together_join text seen (new_unit unit ∷ xs) ys first second = (first.0, together_join text 0 xs ys first.1 second)

-- two parts, where no pair is cut between them
together_first : (text : List ℕ) (seen : ℕ) (xs ys : List UnitSource) → StayTogether text seen (xs ++ ys) → IsWhole text (seen_after seen xs) → StayTogether text seen xs
together_first text seen [] ys all whole = whole
together_first text seen (kept_at place ∷ xs) ys all whole = (all.0, together_first text (suc place) xs ys all.1 whole)
together_first text seen (new_unit unit ∷ xs) ys all whole = (all.0, together_first text 0 xs ys all.1 whole)

together_second : (text : List ℕ) (seen : ℕ) (xs ys : List UnitSource) → StayTogether text seen (xs ++ ys) → IsWhole text (seen_after seen xs) → StayTogether text 0 ys
together_second text seen [] [] all whole = whole_start text
together_second text seen [] (kept_at place ∷ ys) all whole = elim all.0 [
  | inl same ↦ (inr (whole_start text, subst (IsWhole text) same whole), all.1)
  | inr both ↦ (inr (whole_start text, both.1), all.1)
]
together_second text seen [] (new_unit unit ∷ ys) all whole = (whole_start text, all.1)
together_second text seen (kept_at place ∷ xs) ys all whole = together_second text (suc place) xs ys all.1 whole
together_second text seen (new_unit unit ∷ xs) ys all whole = together_second text 0 xs ys all.1 whole

-- the last unit is that of the text in front of `seen`
data EndsAt (text : List ℕ) (seen : ℕ) (units : List ℕ) : Type 0 where
  elsewhere : seen ≡ 0 → EndsAt text seen units
  behind : (front : List ℕ) (place : ℕ) → seen ≡ suc place → units ≡ front ++ (slice_index text place ∷ []) → EndsAt text seen units

-- a pair of the text that is kept is a pair of what its sources stand for
kept_pair : (text : List ℕ) (seen place : ℕ) (units : List ℕ) (later : List ℕ) → EndsAt text seen units → seen ≡ place → CutsPair text seen
    → CutsPair (units ++ slice_index text place ∷ later) (length units)
kept_pair text seen place units later (elsewhere nowhere) same cut = absurd (omega (arith, cut.after_start))
kept_pair text seen place units later (behind front last is whole) same cut =
    let all = units ++ slice_index text place ∷ later in
    let size : length units ≡ length front + 1 = ap length whole ∙ length-append front (slice_index text last ∷ []) in
    let before : length units - 1 ≡ length front = omega arith in
    let before_open : seen - 1 ≡ last = omega arith in
    let within : length front < length units = omega arith in
    let high : slice_index all (length units - 1) ≡ slice_index text (seen - 1) =
    ap (slice_index all) before
    ∙ get_or-append units (slice_index text place ∷ later) 0 (length front) within
    ∙ ap (λ us. slice_index us (length front)) whole
    ∙ get_or-append_seam front (slice_index text last) [] 0
    ∙ ap (slice_index text) (sym before_open) in
    let low : slice_index all (length units) ≡ slice_index text seen =
    get_or-append_seam units (slice_index text place) later 0 ∙ ap (slice_index text) (sym same) in
    record {
      after_start = omega arith;
      before_end = omega (arith, length-append units (slice_index text place ∷ later));
      high = rw high cut.high;
      low = rw low cut.low;
    }

-- where the units are cut in no pair, no pair of the text is cut there
seam : (text : List ℕ) (seen : ℕ) (units : List ℕ) (xs ys : List UnitSource) → EndsAt text seen units → StayTogether text seen (xs ++ ys)
    → IsWhole (units ++ map (unit_of text) (xs ++ ys)) (length units + length xs) → IsWhole text (seen_after seen xs)
seam text seen units [] [] ends all whole = all
seam text seen units [] (kept_at place ∷ ys) ends all whole = elim all.0 [
  | inl same ↦ λ cut.
      let there : length units + 0 ≡ length units = omega arith in
      subst (IsWhole (units ++ slice_index text place ∷ map (unit_of text) ys)) there whole
      (kept_pair text seen place units (map (unit_of text) ys) ends same cut)
  | inr both ↦ both.0
]
seam text seen units [] (new_unit unit ∷ ys) ends all whole = all.0
seam text seen units (kept_at place ∷ xs) ys ends all whole =
    let unit = slice_index text place in
    let more = units ++ unit ∷ [] in
    let rest = map (unit_of text) (xs ++ ys) in
    let count : length units + suc (length xs) ≡ length more + length xs = omega (arith, length-append units (unit ∷ [])) in
    let moved = subst (IsWhole (units ++ unit ∷ rest)) count whole in
    seam text (suc place) more xs ys (behind units place refl refl) all.1
    (subst (λ us. IsWhole us (length more + length xs)) (sym (append_assoc units (unit ∷ []) rest)) moved)
seam text seen units (new_unit unit ∷ xs) ys ends all whole =
    let more = units ++ unit ∷ [] in
    let rest = map (unit_of text) (xs ++ ys) in
    let count : length units + suc (length xs) ≡ length more + length xs = omega (arith, length-append units (unit ∷ [])) in
    let moved = subst (IsWhole (units ++ unit ∷ rest)) count whole in
    seam text 0 more xs ys (elsewhere refl) all.1
    (subst (λ us. IsWhole us (length more + length xs)) (sym (append_assoc units (unit ∷ []) rest)) moved)

-- no operation cuts a pair of the units
abbrev CutNone : List ℕ → List Operation → Type 0
CutNone units [] = Unit {0}
CutNone units (operation ∷ operations) = IsWhole units operation.offset × IsWhole units (end_of operation) × CutNone units operations

-- the range of sources from one place to a whole one, and what stands behind it
record Apart (text : List ℕ) (sources : List UnitSource) (from to : ℕ) : Type 0 where
  range : StayTogether text 0 (take (to - from) (drop from sources))
  behind : StayTogether text 0 (drop to sources)

apart_at : (text : List ℕ) (sources : List UnitSource) (from to : ℕ) → from ≤ to → to ≤ length sources → StayTogether text 0 (drop from sources)
    → IsWhole (map (unit_of text) sources) to → Apart text sources from to
apart_at text sources from to order inside all whole =
    let before = take from sources in
    let range = take (to - from) (drop from sources) in
    let rest = drop to sources in
    let units = map (unit_of text) before in
    let split : range ++ rest ≡ drop from sources = range-drop from to sources order in
    let size : length units + length range ≡ to =
    omega (
      arith,
      length-map before (unit_of text),
      ap length (take-append-drop from sources),
      length-append before (drop from sources),
      length-drop from sources,
      ap length split,
      length-append range rest,
      length-drop to sources,
    ) in
    let both : units ++ map (unit_of text) (range ++ rest) ≡ map (unit_of text) sources =
    ap (λ xs. units ++ map (unit_of text) xs) split
    ∙ sym (map-append (unit_of text) before (drop from sources))
    ∙ ap (map (unit_of text)) (take-append-drop from sources) in
    let together = subst (StayTogether text 0) (sym split) all in
    let here = subst (λ us. IsWhole us (length units + length range)) (sym both) (subst (IsWhole (map (unit_of text) sources)) (sym size) whole) in
    let whole_here = seam text 0 units range rest (elsewhere refl) together here in
    record { range = together_first text 0 range rest together whole_here; behind = together_second text 0 range rest together whole_here }

together_new : (text units : List ℕ) → StayTogether text 0 (map new_unit units)
together_new text [] = whole_start text
together_new text (unit ∷ units) = (whole_start text, together_new text units)

-- a copy keeps pairs together where its operations cut none
together_copy : (text : List ℕ) (sources : List UnitSource) (place : ℕ) (operations : List Operation) → IsLaid place (length sources) operations → CutNone (map (unit_of text) sources) operations
    → StayTogether text 0 (drop place sources) → StayTogether text 0 (flat_map (sources_of_piece sources) (pieces_from place (length sources) operations))
together_copy text sources place [] laid_out whole all =
    let rest = drop place sources in
    subst (StayTogether text 0) (sym (append-nil (take (length sources - place) rest) ∙ take_all (length sources - place) rest (omega (arith, length-drop place sources)))) all
together_copy text sources place (operation ∷ operations) (starts, inside, rest) (whole_offset, whole_ending, whole) all =
    let start = operation.offset in
    let end = end_of operation in
    let order : start ≤ end = omega arith in
    let first = apart_at text sources place start starts (omega arith) all whole_offset in
    let second = apart_at text sources start end order inside first.behind whole_ending in
    let later = flat_map (sources_of_piece sources) (pieces_from end (length sources) operations) in
    together_join text 0 (take (start - place) (drop place sources)) (map new_unit operation.insert ++ later) first.range
    (together_join text 0 (map new_unit operation.insert) later (together_new text operation.insert) (together_copy text sources end operations rest whole second.behind))

together_kept : (text : List ℕ) (place count : ℕ) → place + count ≡ length text → StayTogether text place (kept_from place count)
together_kept text place zero all = whole_end text place (omega arith)
together_kept text place (suc count) all = (inl refl, together_kept text (suc place) count (omega arith))

-- what is known in front of a gap: it begins here, or units are new already and no pair is cut where it begins
data IsOpen (text : List ℕ) (seen place : ℕ) (inserted : List ℕ) : Type 0 where
  begins : inserted ≡ [] → seen ≡ place → IsOpen text seen place inserted
  goes_on : IsWhole text place → seen ≡ 0 → IsOpen text seen place inserted

cut_none_append : (units : List ℕ) (xs ys : List Operation) → CutNone units xs → CutNone units ys → CutNone units (xs ++ ys)
cut_none_append units [] ys first second = second
cut_none_append units (operation ∷ xs) ys first second = (first.0, first.1, cut_none_append units xs ys first.2 second)

-- a gap cuts no pair where its ends do not
cut_none_gap : (text : List ℕ) (from to : ℕ) (inserted : List ℕ) → from ≤ to
    → IsWhole text from → IsWhole text to → CutNone text (gap from to inserted)
cut_none_gap text from to inserted order starts ends = elim (gap_cases from to inserted) [
  | none same nothing is ↦ subst (CutNone text) (sym is) tt
  | one some is ↦
      let end : to ≡ end_of (replacing from to inserted) = omega arith in
      subst (CutNone text) (sym is) (starts, subst (IsWhole text) end ends, tt)
]

-- the gap in front of a kept unit
first_gap : (text : List ℕ) (seen place at : ℕ) (inserted : List ℕ) → place ≤ at → IsOpen text seen place inserted → (seen ≡ at) ⊎ (IsWhole text seen × IsWhole text at) → CutNone text (gap place at inserted)
first_gap text seen place at inserted order (begins nothing here) (inl same) =
    subst (CutNone text) (sym (ap (gap place at) nothing ∙ ap (λ n. gap n at []) (sym here ∙ same) ∙ gap-none at)) tt
first_gap text seen place at inserted order (begins nothing here) (inr both) = cut_none_gap text place at inserted order (subst (IsWhole text) here both.0) both.1
first_gap text seen place at inserted order (goes_on whole nowhere) (inl same) =
    cut_none_gap text place at inserted order whole (subst (IsWhole text) (sym nowhere ∙ same) (whole_start text))
first_gap text seen place at inserted order (goes_on whole nowhere) (inr both) = cut_none_gap text place at inserted order whole both.1

-- no operation of a patch that can be applied cuts a pair
cut_none_from : (units : List ℕ) (operations : List Operation)
    → ((index : ℕ) (operation : Operation) → slice_get operations index ≡ Some operation → IsWhole units operation.offset × IsWhole units (end_of operation)) → CutNone units operations
cut_none_from units [] whole = tt
cut_none_from units (operation ∷ operations) whole =
    let here = whole 0 operation refl in
    (here.0, here.1, cut_none_from units operations (λ index later is. whole (suc index) later is))

cut_none_of : (units : List ℕ) (patch : Patch) → CanApply patch units → CutNone units patch.ops
cut_none_of units patch can =
    cut_none_from units patch.ops (λ index operation is. (λ cut. can.whole index (operation, is, inl cut), λ cut. can.whole index (operation, is, inr cut)))

whole_at : (units : List ℕ) (operations : List Operation) (index : ℕ) (operation : Operation) → CutNone units operations → slice_get operations index ≡ Some operation
    → IsWhole units operation.offset × IsWhole units (end_of operation)
whole_at units [] index operation whole is = cc
whole_at units (first ∷ operations) zero operation whole is =
    let same : first ≡ operation = cc in
    subst (λ (o : Operation). IsWhole units o.offset × IsWhole units (end_of o)) same (whole.0, whole.1)
whole_at units (first ∷ operations) (suc index) operation whole is = whole_at units operations index operation whole.2 is

whole_of : (units : List ℕ) (patch : Patch) → CutNone units patch.ops → (index : ℕ) → ¬ (CutsPairAt patch units index)
whole_of units patch whole index (operation, is, cut) =
    let here = whole_at units patch.ops index operation whole is in
    elim cut [ inl start ↦ here.0 start | inr end ↦ here.1 end ]

-- a gap begins where no pair is cut
starts_whole : (text : List ℕ) (seen place : ℕ) (inserted : List ℕ) → IsOpen text seen place inserted → IsWhole text seen → IsWhole text place
starts_whole text seen place inserted (begins nothing here) whole_seen = subst (IsWhole text) here whole_seen
starts_whole text seen place inserted (goes_on whole nowhere) whole_seen = whole

-- the operations that are read off cut no pair
cut_none_between : (text : List ℕ) (seen place : ℕ) (inserted : List ℕ) (sources : List UnitSource) → IsAscending place (length text) sources → IsOpen text seen place inserted → StayTogether text seen sources
    → CutNone text (operations_between place inserted (length text) sources)
cut_none_between text seen place inserted [] rises is_open together =
    let end : IsWhole text (length text) = whole_end text (length text) refl in
    cut_none_gap text place (length text) inserted rises (starts_whole text seen place inserted is_open together) end
cut_none_between text seen place inserted (kept_at at ∷ sources) rises is_open together =
    cut_none_append text (gap place at inserted) (operations_between (suc at) [] (length text) sources)
    (first_gap text seen place at inserted rises.0 is_open together.0)
    (cut_none_between text (suc at) (suc at) [] sources rises.1 (begins refl refl) together.1)
cut_none_between text seen place inserted (new_unit unit ∷ sources) rises is_open together =
    cut_none_between text 0 place (inserted ++ unit ∷ []) sources rises (goes_on (starts_whole text seen place inserted is_open together.0) refl) together.1

whole_between : (first second : Patch) (text : List ℕ) → CanApply first text → CanApply second (text_after first text) → CutNone text (merged first second (length text)).ops
unfolding merged
whole_between first second text can_first can_second =
    let size = length text in
    let can = CanMerge-CanApply first second text can_first can_second in
    let start = kept_from 0 size in
    let all : map (unit_of text) start ≡ text = map-kept_all text size refl in
    let between = sources_of first size in
    let units : map (unit_of text) between ≡ text_after first text = map-sources_after (unit_of text) first start (λ unit. refl) ∙ ap (text_after first) all in
    let first_laid = subst (λ n. IsLaid 0 n first.ops) (sym (length-kept_from 0 size)) (laid first size can_first.ordered can_first.inside) in
    let first_whole = subst (λ us. CutNone us first.ops) (sym all) (cut_none_of text first can_first) in
    let first_together = subst (StayTogether text 0) (sym (sources-pieces first start)) (together_copy text start 0 first.ops first_laid first_whole (together_kept text 0 size (omega arith))) in
    let second_whole = subst (λ us. CutNone us second.ops) (sym units) (cut_none_of (text_after first text) second can_second) in
    let both_together = subst (StayTogether text 0) (sym (sources-pieces second between)) (together_copy text between 0 second.ops (laid_second first second size can) second_whole first_together) in
    cut_none_between text 0 0 [] (sources_after second between) (rising_both first second size can) (begins refl refl) both_together

-- a patch that can be applied twice in turn can be applied merged
pub CanApply-merged : (first second : Patch) (text : List ℕ) → CanApply first text → CanApply second (text_after first text) → CanApply (merged first second (length text)) text
CanApply-merged first second text can_first can_second =
    let size = length text in
    let both = merged first second size in
    let laid_out = laid-merged first second size (CanMerge-CanApply first second text can_first can_second) in
    record {
      ordered = ordered_laid both size laid_out;
      inside = inside_laid both size laid_out;
      whole = whole_of text both (whole_between first second text can_first can_second);
    }
