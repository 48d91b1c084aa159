-- Texts of letters.
use Rattle.std.specs.Prelude.{ℕ, ◌≤◌, List, All}

-- each unit is one of `a` to `z`
abbrev pub AreLetters : List ℕ → Type 0
AreLetters text = All (λ unit. (97 ≤ unit) × (unit ≤ 122)) text
