-- What holds of the edits that take out the units of a stroke.
use Rattle.std.specs.Prelude.{◌≡◌, ℕ, List, length}
use Rattle.pad_stroke.specs.Row.{Row}
use Rattle.pad_strokes.specs.Row.{without, KeepsPairs}
use Rattle.pad_strokes.specs.Removal.{taken_out, CanTakeOut}
use Rattle.pad_strokes.specs.Runs.{runs}

-- of each list with one element for each unit those are left whose units are not of the stroke
abbrev pub TakesOut : Type 0 → Type 0
TakesOut A = (stroke : ℕ) (row : Row) (items : List A) → length items ≡ length row → taken_out (runs stroke row) items ≡ without stroke row items

-- each edit is allowed where it is made
abbrev pub EachMayFollow : Type 0
EachMayFollow = (stroke : ℕ) (row : Row) (text : List ℕ) → length text ≡ length row → KeepsPairs stroke row text → CanTakeOut text (runs stroke row)
