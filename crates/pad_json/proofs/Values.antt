-- Texts have one value, and arrays one list.
use Rattle.std.proofs.Common.{◌≡◌, List, [], ◌∷◌, Some, refl, sym, ap₂, ◌∙◌}
use Rattle.serde_json.specs.Data.{Data}
use Rattle.serde_json.specs.View.{items_of}
use Rattle.pad_json.specs.Spells.{TextsSpellOneValue, ArraysHaveOneList}

pub one_value : TextsSpellOneValue
one_value text first second one other = let same : Some first ≡ Some second = sym one.value ∙ other.value in cc

items_alike : (xs ys : List Data) → items_of xs ≡ items_of ys → xs ≡ ys
items_alike [] [] same = refl
items_alike [] (y ∷ ys) same = absurd (cc)
items_alike (x ∷ xs) [] same = absurd (cc)
items_alike (x ∷ xs) (y ∷ ys) same =
    let first : x ≡ y = cc in
    let rest : items_of xs ≡ items_of ys = cc in
    ap₂ (λ (d : Data) (ds : List Data). d ∷ ds) first (items_alike xs ys rest)

pub one_list : ArraysHaveOneList
one_list first second same = items_alike first second (cc)
