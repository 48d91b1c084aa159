-- The files whose sync failed in this run.
use Rattle.std.specs.Prelude.{ℕ, Bool, ◌||◌, List, IsTrue}
use Rattle.std.specs.List.{list_any}
use Rattle.std.specs.Str.{bytes_eq}

-- their names, or every name
pub record Losses : Type 0 where
  pub names : List (List ℕ)
  pub all : Bool

-- a sync of the file of this name failed
abbrev pub is_lost : Losses → List ℕ → Bool
is_lost lost name = lost.all || list_any (λ other. bytes_eq other name) lost.names

-- what was lost stays lost
abbrev pub StayLost : Losses → Losses → Type 0
StayLost old new = (name : List ℕ) → IsTrue (is_lost old name) → IsTrue (is_lost new name)
