-- What the keeper is asked.
use Rattle.std.specs.Prelude.{◌≡◌, ℕ, ◌≤◌, List, [], ◌∷◌, codes}
use Rattle.serde_json.specs.Data.{Data, string}
use Rattle.serde_json.specs.Written.{compact_text}
use Rattle.pad_text.specs.Digits.{IsDigits}
use Rattle.pad_json.specs.Data.{array_of, whole}
use Rattle.pad_json.specs.Name.{IsName, name_data}
use Rattle.pad_json.specs.Spells.{Spells}
use Rattle.netflux_codec.specs.declared.ask.Ask.{Ask}
use Rattle.netflux_codec.specs.declared.ask.Ask.TheVariants.{History, At}
use Rattle.netflux_codec.specs.declared.reply.TheConstants.{MOST_ENTRIES}
use Rattle.netflux_codec.specs.declared.since.Since.{Since}
use Rattle.netflux_codec.specs.declared.since.Since.TheVariants as since

-- the elements of a question for the history of a channel
abbrev pub since_elements : List ℕ → Since → List Data
since_elements channel since.Default = string (codes "GET_HISTORY") ∷ string channel ∷ []
since_elements channel (since.Known key) = string (codes "GET_HISTORY") ∷ string channel ∷ name_data key ∷ []
since_elements channel since.All = string (codes "GET_FULL_HISTORY") ∷ string channel ∷ []

abbrev pub ask_elements : Ask → List Data
ask_elements (History channel from) = since_elements channel from
ask_elements (At channel index) = string (codes "GET_HISTORY_AT") ∷ string channel ∷ whole index ∷ []

-- a key is a name
abbrev pub IsSince : Since → Type 0
IsSince since.Default = Unit {0}
IsSince (since.Known key) = IsName key
IsSince since.All = Unit {0}

-- a channel has 32 digits, a key is a name, and an index is not too great
abbrev pub IsAsk : Ask → Type 0
IsAsk (History channel from) = IsDigits 32 channel × IsSince from
IsAsk (At channel index) = IsDigits 32 channel × (index ≤ MOST_ENTRIES)

-- an index in the question is not too great
abbrev pub HasSmallIndex : Ask → Type 0
HasSmallIndex (History channel from) = Unit {0}
HasSmallIndex (At channel index) = index ≤ MOST_ENTRIES

-- a content spells a question
pub record Asks (content : List ℕ) (ask : Ask) : Type 0 where
  pub spells : Spells content (array_of (ask_elements ask))
  pub typed : IsAsk ask

-- the text of a question
unfoldable pub ask_text : Ask → List ℕ
ask_text ask = compact_text (array_of (ask_elements ask))

-- a content spells at most one question
abbrev pub TextsSpellOneAsk : Type 0
TextsSpellOneAsk = (text : List ℕ) (first second : Ask) → Asks text first → Asks text second → first ≡ second

-- what is written for a question spells it
abbrev pub AskTextsSpell : Type 0
AskTextsSpell = (ask : Ask) → IsAsk ask → Asks (ask_text ask) ask
