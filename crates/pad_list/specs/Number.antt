-- How many different things there are.
use Rattle.std.specs.Prelude.{◌≡◌, ◌↔◌, ⊤, ℕ, List, [], ◌∷◌, length, Contains}

-- nothing is in the list twice
abbrev pub NoRepeat : {A : Type 0} → List A → Type 0
NoRepeat [] = ⊤
NoRepeat (x ∷ xs) = ¬ (Contains xs x) × NoRepeat xs

-- P holds of this many different things, and of no more
pub record IsNumberOf {A : Type 0} (P : A → Type 0) (number : ℕ) : Type 0 where
  pub all : List A
  pub once : NoRepeat all
  pub these : (x : A) → Contains all x ↔ P x
  pub many : number ≡ length all

-- the same numbers are counted once
abbrev pub OneNumber : Type 0
OneNumber = (all : List ℕ) (one other : ℕ) → IsNumberOf (Contains all) one → IsNumberOf (Contains all) other → one ≡ other
