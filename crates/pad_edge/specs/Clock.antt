-- The moments that a clock shows, in seconds since 1970.
use Rattle.std.specs.Prelude.{ℕ, List, [], ◌∷◌}

-- the moment that it shows next: the first that is still to come, and 0 if none is
abbrev pub next_moment : List ℕ → ℕ
next_moment [] = 0
next_moment (moment ∷ moments) = moment

-- the moments that are to come after that: the last one stays
abbrev pub moments_after : List ℕ → List ℕ
moments_after [] = []
moments_after (moment ∷ []) = moment ∷ []
moments_after (moment ∷ next ∷ moments) = next ∷ moments
