-- Plain JSON texts and their values.
use Rattle.std.specs.Prelude.{◌≡◌, ℕ, ◌≤◌, List, IsTrue, Some}
use Rattle.serde_json.specs.Data.{Data, depth}
use Rattle.serde_json.specs.Read.{read, max_depth}
use Rattle.serde_json.specs.Written.{compact_text}
use Rattle.pad_text.specs.Plain.{plain}
use Rattle.pad_json.specs.Data.{IsSimple, array_of}

-- a text spells a value: it is plain, and a JSON text with this value
pub record Spells (text : List ℕ) (spelled : Data) : Type 0 where
  pub plain : IsTrue (plain text)
  pub value : read text ≡ Some spelled

-- the compact text of a simple value spells it, unless it nests too deep
abbrev pub CompactTextsSpell : Type 0
CompactTextsSpell = (value : Data) → IsSimple value → depth value ≤ max_depth → Spells (compact_text value) value

-- a text spells at most one value
abbrev pub TextsSpellOneValue : Type 0
TextsSpellOneValue = (text : List ℕ) (first second : Data) → Spells text first → Spells text second → first ≡ second

-- an array is of one list of values alone
abbrev pub ArraysHaveOneList : Type 0
ArraysHaveOneList = (first second : List Data) → array_of first ≡ array_of second → first ≡ second
