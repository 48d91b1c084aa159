-- What a link and a sink tell.
use Rattle.std.specs.Prelude.{ℕ, List, Option}

-- the texts heard and sent so far, and the bytes written
pub record Told : Type 0 where
  pub heard : List (List ℕ)
  pub sent : List (List ℕ)
  pub written : Option (List ℕ)

abbrev pub told : (heard sent : List (List ℕ)) → (written : Option (List ℕ)) → Told
told heard sent written = record { heard = heard; sent = sent; written = written }
