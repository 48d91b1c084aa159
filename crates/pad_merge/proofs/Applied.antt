-- Patches that can be applied one after the other can be merged.
use Rattle.std.proofs.Common.{arith, ◌≡◌, ℕ, ◌-◌, inl, inr, List, length, map, refl, ◌∙◌, ap, subst}
use Rattle.std.specs.Prelude.{Some, slice_get, slice_index}
use Rattle.std.specs.Option.{option_map}
use Rattle.std.proofs.lemmas.List.{length-map}
use Rattle.std.proofs.lemmas.Option.{slice_get-map, slice_get_within, get_or_from_slice_get}
use Rattle.pad_text.specs.Text.{CutsPair}
use Rattle.pad_patch.specs.declared.patch.Patch.{Patch}
use Rattle.pad_patch.specs.Piece.{end_of, text_after}
use Rattle.pad_patch.specs.Misfit.{EndsAfter, CanApply}
use Rattle.pad_patch.proofs.CallerLemmas.{length-text_after}
use Rattle.pad_merge.specs.UnitSource.{UnitSource, new_unit, kept_from, sources_of, unit_of}
use Rattle.pad_merge.specs.Merge.{CutsNewPair, CutsInserted, CanMerge}
use Rattle.pad_merge.proofs.Sources.{map-sources_after, map-kept_all}

-- a new unit stands in the text too
new_stands : (text : List ℕ) (sources : List UnitSource) (index unit : ℕ) → slice_get sources index ≡ Some (new_unit unit) → slice_index (map (unit_of text) sources) index ≡ unit
new_stands text sources index unit is =
    get_or_from_slice_get (map (unit_of text) sources) index unit 0 (slice_get-map (unit_of text) sources index ∙ ap (option_map (unit_of text)) is)

-- a pair of new units is a pair of the text
cut_of_inserted : (text : List ℕ) (sources : List UnitSource) (place : ℕ) → CutsNewPair sources place → CutsPair (map (unit_of text) sources) place
cut_of_inserted text sources place cut =
    let before : place - 1 ≡ cut.before = omega (arith, cut.follows) in
    let high = ap (slice_index (map (unit_of text) sources)) before ∙ new_stands text sources cut.before cut.first cut.first_stands in
    let low = new_stands text sources place cut.second cut.second_stands in
    record {
      after_start = omega (arith, cut.follows);
      before_end = omega (arith, length-map sources (unit_of text), slice_get_within sources place (new_unit cut.second) cut.second_stands);
      high = rw high cut.high;
      low = rw low cut.low;
    }

whole_inserted : (first : Patch) (text : List ℕ) (place : ℕ) → ¬ (CutsPair (text_after first text) place) → ¬ (CutsInserted first (length text) place)
whole_inserted first text place whole cut =
    let units : map (unit_of text) (sources_of first (length text)) ≡ text_after first text =
    map-sources_after (unit_of text) first (kept_from 0 (length text)) (λ unit. refl) ∙ ap (text_after first) (map-kept_all text (length text) refl) in
    whole (subst (λ us. CutsPair us place) units (cut_of_inserted text (sources_of first (length text)) place cut))

pub CanMerge-CanApply : (first second : Patch) (text : List ℕ) → CanApply first text → CanApply second (text_after first text) → CanMerge first second (length text)
CanMerge-CanApply first second text can_first can_second = record {
  first_ordered = can_first.ordered;
  first_inside = can_first.inside;
  second_ordered = can_second.ordered;
  second_inside = subst (λ n. (index : ℕ) → ¬ (EndsAfter second n index)) (length-text_after first text can_first.inside) can_second.inside;
  starts_whole = λ index operation is. whole_inserted first text operation.offset (λ cut. can_second.whole index (operation, is, inl cut));
  ends_whole = λ index operation is. whole_inserted first text (end_of operation) (λ cut. can_second.whole index (operation, is, inr cut));
}
