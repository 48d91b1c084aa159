-- What holds of hashers that are kept on the way through a text.
use Rattle.std.specs.Prelude.{ℕ, ◌≤◌, List, length, take}
use Rattle.sha2.specs.declared.Sha256.{Sha256}
use Rattle.sha2.specs.Hashers.{Holds256}
use Rattle.pad_text.specs.Text.{IsText, utf8}
use Rattle.pad_rope.specs.declared.saved.Saved.{Saved, After'}
use Rattle.pad_rope.specs.declared.saved.Saved.TheVariants.{Start}

-- the hasher holds all that stands before the place, in UTF-8
pub record IsSaved (units : List ℕ) (place : ℕ) (hasher : Sha256) : Type 0 where
  pub inside : place ≤ length units
  pub text : IsText (take place units)
  pub holds : Holds256 hasher (utf8 (take place units))

-- so does each of the saved hashers, the earlier ones for what stands before the later
abbrev pub AreSaved : List ℕ → Saved → Type 0
AreSaved units Start = Unit {0}
AreSaved units (After' place hasher p earlier) = IsSaved units place hasher × AreSaved (take place units) earlier

-- the last place with a saved hasher
abbrev pub newest_place : Saved → ℕ
newest_place Start = 0
newest_place (After' place hasher p earlier) = place
