-- What a merge inserts are texts.
use Rattle.std.proofs.Common.{◌≡◌, ℕ, suc, List, [], ◌∷◌, ◌++◌, map, refl, sym, ◌∙◌, ap, subst}
use Rattle.std.specs.Prelude.{All}
use Rattle.std.proofs.lemmas.List.{append-nil, append_assoc}
use Rattle.std.proofs.lemmas.List.Elements.{All-nil, All-cons, All-append}
use Rattle.pad_text.specs.Text.{IsText}
use Rattle.pad_patch.specs.declared.operation.Operation.{Operation}
use Rattle.pad_patch.specs.declared.patch.Patch.{Patch}
use Rattle.pad_merge.specs.UnitSource.{UnitSource, kept_at, new_unit, IsAscending, sources_of, sources_after}
use Rattle.pad_merge.specs.CopiedUnit.{new_or_letter}
use Rattle.pad_merge.specs.Merge.{gap, operations_between, merged, CanMerge}
use Rattle.pad_merge.proofs.Reading.{none, one, gap_cases, kept_next}
use Rattle.pad_merge.proofs.Both.{both_text, rising_both}

abbrev InsertsText : Operation → Type 0
InsertsText operation = IsText operation.insert

gap_text : (from to : ℕ) (units : List ℕ) → IsText units → All InsertsText (gap from to units)
gap_text from to units text = elim (gap_cases from to units) [
  | none same nothing is ↦ subst (All InsertsText) (sym is) (All-nil InsertsText)
  | one some is ↦ subst (All InsertsText) (sym is) (All-cons InsertsText _ [] text (All-nil InsertsText))
]

between_texts : (place size : ℕ) (units : List ℕ) (sources : List UnitSource) → IsAscending place size sources → IsText (units ++ map new_or_letter sources) → All InsertsText (operations_between place units size sources)
between_texts place size units [] rises text = gap_text place size units (subst IsText (append-nil units) text)
between_texts place size units (kept_at at ∷ sources) rises text =
    let known = kept_next units place size at sources (kept_at at ∷ sources) refl rises text in
    All-append InsertsText (gap place at units) (operations_between (suc at) [] size sources) (gap_text place at units known.text)
    (between_texts (suc at) size [] sources known.rising known.later)
between_texts place size units (new_unit unit ∷ sources) rises text =
    between_texts place size (units ++ unit ∷ []) sources rises (subst IsText (sym (append_assoc units (unit ∷ []) (map new_or_letter sources))) text)

pub texts-merged : (first second : Patch) (size : ℕ) → CanMerge first second size → All InsertsText first.ops → All InsertsText second.ops → All InsertsText (merged first second size).ops
unfolding merged
texts-merged first second size can firsts seconds =
    between_texts 0 size [] (sources_after second (sources_of first size)) (rising_both first second size can) (both_text first second size can firsts seconds)
