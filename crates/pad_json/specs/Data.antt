-- The JSON values (RFC 8259) of plain texts: whole numbers, strings, and arrays of such values.
use Rattle.std.specs.Prelude.{ℕ, ◌^◌, ◌<◌, List}
use Rattle.serde_json.specs.Data.{unsigned, negative, float, Data, null, boolean, number, string, array, object, Items, no_items, item}
use Rattle.serde_json.specs.View.{items_of}

-- a number without a sign, fraction or exponent
abbrev pub whole : ℕ → Data
whole n = number (unsigned n)

-- an array of these values
abbrev pub array_of : List Data → Data
array_of values = array (items_of values)

-- the value is a whole number of 64 bits, a string, or an array of such values
abbrev mutual
  pub IsSimple : Data → Type 0
  IsSimple null = ⊥
  IsSimple (boolean _) = ⊥
  IsSimple (number (unsigned n)) = n < 2 ^ 64
  IsSimple (number (negative z)) = ⊥
  IsSimple (number (float _)) = ⊥
  IsSimple (string _) = Unit {0}
  IsSimple (array items) = AreSimple items
  IsSimple (object _) = ⊥

  -- each item is
  pub AreSimple : Items → Type 0
  AreSimple no_items = Unit {0}
  AreSimple (item value items) = IsSimple value × AreSimple items
