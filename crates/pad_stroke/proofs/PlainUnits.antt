-- A work whose inserted units are no surrogates can be stripped.
use Rattle.std.proofs.Common.{◌≡◌, ℕ, ◌<◌, ◌^◌, Bool, true, false, cond, List, [], ◌∷◌, length, drop, ap, arith}
use Rattle.std.specs.Prelude.{Some, All, not, is_some}
use Rattle.std.specs.List.{list_any}
use Rattle.std.specs.Char.Utf16.{utf16_chars, lone_unit_char}
use Rattle.std.proofs.lemmas.Bool.Decides.{nat_tests}
use Rattle.std.proofs.lemmas.List.Elements.{All-nil, All-cons, All-head, All-tail}
use Rattle.pad_text.specs.Text.{IsText}
use Rattle.pad_text.proofs.CallerLemmas.{IsText-nil, IsText-append}
use Rattle.pad_patch.specs.declared.operation.Operation.{Operation}
use Rattle.pad_stroke.specs.declared.mark.Mark.{Mark}
use Rattle.pad_stroke.specs.Strip.{stays, staying, thinned}

abbrev IsPlain : ℕ → Type 0
IsPlain unit = unit < 55296

alone : (unit : ℕ) → IsPlain unit → lone_unit_char unit ≡ Some unit
alone unit low = grind (arith, nat_tests)

one_unit : (unit : ℕ) → IsPlain unit → IsText (unit ∷ [])
unfolding utf16_chars
one_unit unit low = record {
  paired = ap (λ o. list_any (λ p. not (is_some p)) (o ∷ [])) (alone unit low);
  wide = All-cons (λ u. u < 2 ^ 16) unit [] (omega arith) (All-nil (λ u. u < 2 ^ 16));
}

plain_text : (units : List ℕ) → All IsPlain units → IsText units
plain_text [] plain = IsText-nil
plain_text (unit ∷ units) plain =
    IsText-append (unit ∷ []) units (one_unit unit (All-head IsPlain unit units plain)) (plain_text units (All-tail IsPlain unit units plain))

plain_by : (unit : ℕ) (units : List ℕ) (test : Bool) → IsPlain unit → All IsPlain units → All IsPlain (cond test (unit ∷ units) units)
plain_by unit units true low plain = All-cons IsPlain unit units low plain
plain_by unit units false low plain = plain

plain_staying : (gone : List Mark) (units : List ℕ) (marks : List Mark) → All IsPlain units → All IsPlain (staying gone units marks)
plain_staying gone [] marks plain = plain
plain_staying gone (unit ∷ units) [] plain = All-nil IsPlain
plain_staying gone (unit ∷ units) (mark ∷ marks) plain =
    plain_by unit (staying gone units marks) (stays gone mark) (All-head IsPlain unit units plain) (plain_staying gone units marks (All-tail IsPlain unit units plain))

abbrev InsertsPlain : Operation → Type 0
InsertsPlain operation = All IsPlain operation.insert

pub texts_stay : (gone : List Mark) (operations : List Operation) (marks : List Mark) → All (λ (operation : Operation). All (λ unit. unit < 55296) operation.insert) operations
    → All (λ (operation : Operation). IsText operation.insert) (thinned gone operations marks)
texts_stay gone [] marks plain = All-nil (λ (operation : Operation). IsText operation.insert)
texts_stay gone (operation ∷ operations) marks plain =
    All-cons (λ (o : Operation). IsText o.insert) (record operation { insert = staying gone operation.insert marks }) (thinned gone operations (drop (length operation.insert) marks))
    (plain_text (staying gone operation.insert marks) (plain_staying gone operation.insert marks (All-head InsertsPlain operation operations plain)))
    (texts_stay gone operations (drop (length operation.insert) marks) (All-tail InsertsPlain operation operations plain))
