-- Lists of payloads that hold entries.
use Rattle.std.specs.Prelude.{◌≡◌, ℕ, List, take, slice_get, Some, All}
use Rattle.keeper_entry.specs.Entry.{IsEntry}

-- each of these payloads holds an entry
abbrev pub AreEntries : List (List ℕ) → Type 0
AreEntries payloads = All IsEntry payloads

-- the payload of this index holds no entry, and each before it does
pub record IsFirstOther (payloads : List (List ℕ)) (index : ℕ) : Type 0 where
  pub before : AreEntries (take index payloads)
  pub payload : List ℕ
  pub got : slice_get payloads index ≡ Some payload
  pub other : IsEntry payload → ⊥
