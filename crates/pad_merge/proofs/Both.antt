-- What the merge of two patches is, from what is asked of them.
use Rattle.std.proofs.Common.{◌≡◌, ℕ, zero, suc, ◌+◌, ◌-◌, ◌<◌, inl, inr, List, [], ◌∷◌, length, map, refl, sym, ◌∙◌, ap, subst, arith, ◌^◌, Bool, true, false}
use Rattle.std.specs.Prelude.{All, Some, slice_get, slice_index}
use Rattle.std.specs.Char.Utf16.{utf16_chars, is_high_surrogate, is_low_surrogate}
use Rattle.std.proofs.lemmas.List.{length-map}
use Rattle.pad_text.specs.declared.name.Name.{Name}
use Rattle.pad_text.specs.Text.{IsText, CutsPair}
use Rattle.pad_text.proofs.CallerLemmas.{IsText-nil, IsText-append}
use Rattle.pad_patch.specs.declared.operation.Operation.{Operation}
use Rattle.pad_patch.specs.declared.patch.Patch.{Patch}
use Rattle.pad_patch.specs.Piece.{end_of, length_after, text_after}
use Rattle.pad_patch.specs.Misfit.{EndsAfter}
use Rattle.pad_patch.proofs.CallerLemmas.{IsLaid, laid, inside_laid}
use Rattle.pad_patch.proofs.CallerLemmas.{copy_from, text_after-copy, length-text_after, IsText-text_after}
use Rattle.pad_merge.specs.UnitSource.{UnitSource, kept_at, new_unit, kept_from, sources_after, sources_of, unit_of, IsAscending}
use Rattle.pad_merge.specs.CopiedUnit.{new_or_letter}
use Rattle.pad_merge.specs.Merge.{merged, operations_between, CutsNewPair, CanMerge, IsNormal}
use Rattle.pad_merge.proofs.Sources.{map-sources_after, length-kept_from, map-kept_all, ascending_kept, ascending_after}
use Rattle.pad_merge.proofs.Reading.{copy_between, laid_between, spaced_between, normal_spaced}

-- kept units are read as as many letters
length-letters : (size : ℕ) → length (map new_or_letter (kept_from 0 size)) ≡ size
length-letters size = length-map (kept_from 0 size) new_or_letter ∙ length-kept_from 0 size

-- the sources after the first patch, read as new units and letters, are the text after it of letters
read_first : (patch : Patch) (size : ℕ) → map new_or_letter (sources_of patch size) ≡ text_after patch (map new_or_letter (kept_from 0 size))
read_first patch size = map-sources_after new_or_letter patch (kept_from 0 size) (λ unit. refl)

-- how many sources there are after a patch
pub length-sources_of : (patch : Patch) (size : ℕ) → ((index : ℕ) → ¬ (EndsAfter patch size index)) → length (sources_of patch size) ≡ length_after patch size
length-sources_of patch size inside =
    let units = map new_or_letter (kept_from 0 size) in
    let same = length-letters size in
    sym (length-map (sources_of patch size) new_or_letter)
    ∙ ap length (read_first patch size)
    ∙ length-text_after patch units (subst (λ n. (index : ℕ) → ¬ (EndsAfter patch n index)) (sym same) inside)
    ∙ ap (length_after patch) same

zero_plus : (n : ℕ) → 0 + n ≡ n
zero_plus n = omega arith

-- the sources after the first patch rise
rising_first : (patch : Patch) (size : ℕ) → IsLaid 0 size patch.ops → IsAscending 0 size (sources_of patch size)
rising_first patch size laid_out =
    ascending_after patch (kept_from 0 size) 0 size (subst (λ n. IsLaid 0 n patch.ops) (sym (length-kept_from 0 size)) laid_out)
    (subst (λ n. IsAscending 0 n (kept_from 0 size)) (zero_plus size) (ascending_kept 0 size))

-- the second patch stands in order on the text after the first
pub laid_second : (first second : Patch) (size : ℕ) → CanMerge first second size → IsLaid 0 (length (sources_of first size)) second.ops
laid_second first second size can =
    subst (λ n. IsLaid 0 n second.ops) (sym (length-sources_of first size can.first_inside)) (laid second (length_after first size) can.second_ordered can.second_inside)

-- the sources after both rise
pub rising_both : (first second : Patch) (size : ℕ) → CanMerge first second size → IsAscending 0 size (sources_after second (sources_of first size))
rising_both first second size can =
    ascending_after second (sources_of first size) 0 size (laid_second first second size can)
    (rising_first first size (laid first size can.first_ordered can.first_inside))

-- the sources after both stand for the text after both
both_units : (first second : Patch) (size : ℕ) (text : List ℕ) → length text ≡ size
    → map (unit_of text) (sources_after second (sources_of first size)) ≡ text_after second (text_after first text)
both_units first second size text is =
    map-sources_after (unit_of text) second (sources_of first size) (λ unit. refl)
    ∙ ap (text_after second) (map-sources_after (unit_of text) first (kept_from 0 size) (λ unit. refl) ∙ ap (text_after first) (map-kept_all text size is))

-- the patch that makes units of these sources
abbrev pub patch_from : ℕ → List UnitSource → Name → Patch
patch_from size sources before = record { ops = operations_between 0 [] size sources; before = before }

-- applying the merge once is applying both in turn
pub text_after-merged : (first second : Patch) (size : ℕ) (text : List ℕ) → CanMerge first second size → length text ≡ size
    → text_after (merged first second size) text ≡ text_after second (text_after first text)
unfolding merged
text_after-merged first second size text can is =
    let sources = sources_after second (sources_of first size) in
    let rises = subst (λ n. IsAscending 0 n sources) (sym is) (rising_both first second size can) in
    text_after-copy (merged first second size) text
    ∙ ap (λ n. copy_from text 0 (operations_between 0 [] n sources)) (sym is)
    ∙ copy_between text 0 [] sources rises
    ∙ both_units first second size text is

one_letter : IsText (0x61 ∷ [])
unfolding utf16_chars
one_letter = record { paired = refl; wide = wide }
  where
    wide : All (λ unit. unit < 2 ^ 16) (0x61 ∷ [])
    wide zero default below = omega arith
    wide (suc k) default below = absurd (omega arith)

-- letters are a text
letters_text : (place count : ℕ) → IsText (map new_or_letter (kept_from place count))
letters_text place zero = IsText-nil
letters_text place (suc count) = IsText-append (0x61 ∷ []) (map new_or_letter (kept_from (suc place) count)) one_letter (letters_text (suc place) count)

no_high : (place count index : ℕ) → is_high_surrogate (slice_index (map new_or_letter (kept_from place count)) index) ≡ false
no_high place zero index = refl
no_high place (suc count) zero = refl
no_high place (suc count) (suc index) = no_high (suc place) count index

-- no pair stands in letters
letters_whole : (size place : ℕ) → ¬ (CutsPair (map new_or_letter (kept_from 0 size)) place)
letters_whole size place cut =
    let told : is_high_surrogate (slice_index (map new_or_letter (kept_from 0 size)) (place - 1)) ≡ true = cut.high in
    let never = no_high 0 size (place - 1) in
    cc

-- the sources after the first patch, read as new units and letters, are a text
pub first_text : (patch : Patch) (size : ℕ) → All (λ (operation : Operation). IsText operation.insert) patch.ops → IsText (map new_or_letter (sources_of patch size))
first_text patch size inserts =
    subst IsText (sym (read_first patch size))
    (IsText-text_after patch (map new_or_letter (kept_from 0 size)) (letters_text 0 size) inserts
    (λ index (operation, is, cut). elim cut [ inl start ↦ letters_whole size operation.offset start | inr end ↦ letters_whole size (end_of operation) end ]))

-- a unit of a pair is no letter, so it is new
new_at : (test : ℕ → Bool) (sources : List UnitSource) (index : ℕ) → test 0x61 ≡ false → test 0 ≡ false → test (slice_index (map new_or_letter sources) index) ≡ true
    → (unit : ℕ) × (slice_get sources index ≡ Some (new_unit unit)) × (test unit ≡ true)
new_at test [] index letter past is = cc
new_at test (kept_at place ∷ sources) zero letter past is = cc
new_at test (new_unit unit ∷ sources) zero letter past is = (unit, refl, is)
new_at test (kept_at place ∷ sources) (suc index) letter past is = new_at test sources index letter past is
new_at test (new_unit unit ∷ sources) (suc index) letter past is = new_at test sources index letter past is

new_pair : (sources : List UnitSource) (place : ℕ) → CutsPair (map new_or_letter sources) place → CutsNewPair sources place
new_pair sources place cut =
    let high = new_at is_high_surrogate sources (place - 1) refl refl cut.high in
    let low = new_at is_low_surrogate sources place refl refl cut.low in
    record {
      before = place - 1;
      follows = omega (arith, cut.after_start);
      first = high.0;
      second = low.0;
      first_stands = high.1;
      second_stands = low.1;
      high = high.2;
      low = low.2;
    }

-- and so are those after both
pub both_text : (first second : Patch) (size : ℕ) → CanMerge first second size
    → All (λ (operation : Operation). IsText operation.insert) first.ops → All (λ (operation : Operation). IsText operation.insert) second.ops
    → IsText (map new_or_letter (sources_after second (sources_of first size)))
both_text first second size can first_inserts second_inserts =
    let units = map new_or_letter (sources_of first size) in
    subst IsText (sym (map-sources_after new_or_letter second (sources_of first size) (λ unit. refl)))
    (IsText-text_after second units (first_text first size first_inserts) second_inserts
    (λ index (operation, is, cut). elim cut [ inl start ↦ can.starts_whole index operation is (new_pair (sources_of first size) operation.offset start) | inr end ↦ can.ends_whole index operation is (new_pair (sources_of first size) (end_of operation) end) ]))

-- the merge is in normal form
pub IsNormal-merged : (first second : Patch) (size : ℕ) → CanMerge first second size → IsNormal (merged first second size)
unfolding merged
IsNormal-merged first second size can =
    normal_spaced (merged first second size) (spaced_between 0 size [] (sources_after second (sources_of first size)) (rising_both first second size can))

-- the operations of the merge stand in order within the text
pub laid-merged : (first second : Patch) (size : ℕ) → CanMerge first second size → IsLaid 0 size (merged first second size).ops
unfolding merged
laid-merged first second size can =
    laid_between 0 size [] (sources_after second (sources_of first size)) (rising_both first second size can)

pub inside-merged : (first second : Patch) (size : ℕ) → CanMerge first second size → (index : ℕ) → ¬ (EndsAfter (merged first second size) size index)
inside-merged first second size can = inside_laid (merged first second size) size (laid-merged first second size can)
