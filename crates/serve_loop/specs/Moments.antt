-- The moments that a clock shows.
use Rattle.std.specs.Prelude.{ℕ, zero, suc, List, [], ◌∷◌}
use Rattle.pad_edge.specs.Clock.{next_moment, moments_after}

-- the moments that so many calls show
abbrev pub moments_of : ℕ → List ℕ → List ℕ
moments_of zero coming = []
moments_of (suc calls) coming = next_moment coming ∷ moments_of calls (moments_after coming)

-- the moments that are to come after so many calls
abbrev pub coming_after : ℕ → List ℕ → List ℕ
coming_after zero coming = coming
coming_after (suc calls) coming = coming_after calls (moments_after coming)
