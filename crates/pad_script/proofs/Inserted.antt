-- What a JSON text inserts.
use Rattle.std.proofs.Common.{◌≡◌, ◌≢◌, ℕ, List, Option, None, Some, Result, Ok, Err, subst, sym}
use Rattle.std.specs.Prelude.{IfOk, MatchOption}
use Rattle.serde_json.specs.Data.{Data, string}
use Rattle.pad_text.specs.Text.{IsText, utf8}
use Rattle.pad_json.specs.Spells.{Spells}
use Rattle.pad_json.proofs.CallerLemmas.{one_value}

-- the text that the value is, where it is a string
abbrev pub IsTextOf : Data → Option (List ℕ) → Type 0
IsTextOf value found = MatchOption found ((units : List ℕ) → value ≢ string (utf8 units)) (λ units. (value ≡ string (utf8 units)) × IsText units)

abbrev pub IsInserted : List ℕ → Option (List ℕ) → Type 0
IsInserted text found = MatchOption found ((units : List ℕ) → ¬ (Spells text (string (utf8 units)))) (λ units. Spells text (string (utf8 units)) × IsText units)

pub inserted : {E : Type 0} (text : List ℕ) (value : Data) (found : Result (Option (List ℕ)) E) → Spells text value → IfOk found (IsTextOf value) → IfOk found (IsInserted text)
inserted text value (Ok None) spells is = λ units other. is units (one_value text value (string (utf8 units)) spells other)
inserted text value (Ok (Some units)) spells is = (subst (Spells text) is.0 spells, is.1)
inserted text value (Err error) spells is = tt
