-- Texts that are joined.
use Rattle.std.specs.Prelude.{◌≡◌, ℕ, List, ◌++◌, length}
use Rattle.pad_text.specs.Text.{IsText, CutsPair, utf8}

-- UTF-8 keeps joins: the bytes of two texts joined are the bytes of both; and no pair is cut where the first ends
pub record IsKeptByJoins : Type 0 where
  pub bytes : (front back : List ℕ) → IsText front → IsText back → utf8 (front ++ back) ≡ utf8 front ++ utf8 back
  pub whole : (front back : List ℕ) → IsText front → ¬ (CutsPair (front ++ back) (length front))
