-- The compact text of a simple value spells it.
use Rattle.std.proofs.Common.{◌≡◌, ◌≤◌, suc, max, [], ◌++◌, Some, option_map, option_and_then, refl, sym, ap, ap₂, ◌∙◌, append-nil, arith}
use Rattle.json.specs.Lex.{tokens}
use Rattle.json.specs.Json as json
use Rattle.json.specs.Tree as tree
use Rattle.json.proofs.Printed.Tokens.{tokens-print}
use Rattle.json.proofs.Printed.Trees.{value-json_tokens, ArePrintable-json_tokens}
use Rattle.json.proofs.Printed.Decimals.{IsNumber-decimal}
use Rattle.serde_json.specs.Data.{unsigned, negative, float, Data, null, boolean, number, string, array, object, Items, no_items, item, depth, items_depth}
use Rattle.serde_json.specs.Read.{read, max_depth, of_json, of_items}
use Rattle.serde_json.specs.Written.{outline, items_outline, compact_text}
use Rattle.serde_json.proofs.Numbers.{number_of-decimal}
use Rattle.serde_json.proofs.Texts.{print-outline}
use Rattle.pad_json.specs.Data.{IsSimple, AreSimple}
use Rattle.pad_json.specs.Spells.{CompactTextsSpell}
use Rattle.pad_json.proofs.PlainTexts.{compact_plain}

mutual
  has_numbers : (d : Data) → IsSimple d → tree.HasNumbers (outline d)
  has_numbers null is = absurd is
  has_numbers (boolean b) is = absurd is
  has_numbers (number (unsigned n)) is = IsNumber-decimal n is
  has_numbers (number (negative z)) is = absurd is
  has_numbers (number (float x)) is = absurd is
  has_numbers (string s) is = tt
  has_numbers (array ds) is = have_numbers ds is
  has_numbers (object ms) is = absurd is

  have_numbers : (ds : Items) → AreSimple ds → tree.ItemsHaveNumbers (items_outline ds)
  have_numbers no_items are = tt
  have_numbers (item d ds) are = (has_numbers d are.0, have_numbers ds are.1)

mutual
  again : (d : Data) → IsSimple d → of_json (outline d) ≡ Some d
  again null is = absurd is
  again (boolean b) is = absurd is
  again (number (unsigned n)) is = ap (option_map number) (number_of-decimal n is)
  again (number (negative z)) is = absurd is
  again (number (float x)) is = absurd is
  again (string s) is = refl
  again (array ds) is = ap (option_map array) (items_again ds is)
  again (object ms) is = absurd is

  items_again : (ds : Items) → AreSimple ds → of_items (items_outline ds) ≡ Some ds
  items_again no_items are = refl
  items_again (item d ds) are = rw (again d are.0, items_again ds are.1)

mutual
  as_deep : (d : Data) → IsSimple d → tree.depth (outline d) ≡ depth d
  as_deep null is = absurd is
  as_deep (boolean b) is = absurd is
  as_deep (number n) is = refl
  as_deep (string s) is = refl
  as_deep (array ds) is = ap suc (items_as_deep ds is)
  as_deep (object ms) is = absurd is

  items_as_deep : (ds : Items) → AreSimple ds → tree.items_depth (items_outline ds) ≡ items_depth ds
  items_as_deep no_items are = refl
  items_as_deep (item d ds) are = ap₂ max (as_deep d are.0) (items_as_deep ds are.1)

compact_read : (d : Data) → IsSimple d → depth d ≤ max_depth → read (compact_text d) ≡ Some d
compact_read d is shallow =
    let shown = print-outline d in
    let lexed = tokens-print (tree.json_tokens (outline d)) (ArePrintable-json_tokens (outline d) (has_numbers d is)) in
    let whole : tokens (compact_text d) ≡ tree.json_tokens (outline d) ++ [] = ap tokens (sym shown) ∙ (lexed ∙ sym (append-nil (tree.json_tokens (outline d)))) in
    let parsed = value-json_tokens (outline d) max_depth [] (omega (arith, as_deep d is)) in
    ap (λ ts. option_and_then of_json (option_and_then (λ p. json.if_last p.0 p.1) (json.value max_depth ts))) whole
    ∙ (ap (λ o. option_and_then of_json (option_and_then (λ p. json.if_last p.0 p.1) o)) parsed ∙ again d is)

pub compact_spells : CompactTextsSpell
compact_spells value is shallow = record { plain = compact_plain value is; value = compact_read value is shallow }
