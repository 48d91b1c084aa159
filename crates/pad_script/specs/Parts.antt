-- What stands in the lines of both scripts.
use Rattle.std.specs.Prelude.{◌≡◌, ℕ, List, [], ◌∷◌, ◌++◌, codes, decimal}
use Rattle.std.specs.Str.{IsUtf8}
use Rattle.serde_json.specs.Data.{string}
use Rattle.hex.specs.Hex.{encode_lower}
use Rattle.pad_text.specs.Text.{utf8}
use Rattle.pad_json.specs.Spells.{Spells}
use Rattle.pad_patch.specs.declared.operation.Operation.{Operation}
use Rattle.pad_message.specs.Message.{IsOperation}
use Rattle.netflux_codec.specs.declared.since.Since.{Since}
use Rattle.netflux_codec.specs.declared.since.Since.TheVariants as since

-- the codes of a space and of `#`
abbrev pub space : ℕ
space = 32

abbrev pub number_sign : ℕ
number_sign = 35

-- words with one space between each two
abbrev pub spaced : List (List ℕ) → List ℕ
spaced [] = []
spaced (word ∷ []) = word
spaced (word ∷ next ∷ words) = word ++ space ∷ spaced (next ∷ words)

-- a line that does nothing: it is empty, or begins with `#`
abbrev pub DoesNothing : List ℕ → Type 0
DoesNothing [] = Unit {0}
DoesNothing (byte ∷ bytes) = byte ≡ number_sign

-- the words that say from where on a history is asked
abbrev pub since_words : Since → List (List ℕ)
since_words since.Default = []
since_words (since.Known key) = encode_lower key.0 ∷ []
since_words since.All = codes "all" ∷ []

-- `OFFSET REMOVE STRING`, where STRING, up to the end, is a plain JSON text whose value is the text to insert
pub record SpellsOperation (text : List ℕ) (operation : Operation) : Type 0 where
  pub quoted : List ℕ
  pub written : text ≡ spaced (decimal operation.offset ∷ decimal operation.remove ∷ quoted ∷ [])
  pub spells : Spells quoted (string (utf8 operation.insert))
  pub typed : IsOperation operation
