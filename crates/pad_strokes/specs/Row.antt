-- The units of one stroke in a row of marks.
use Rattle.std.specs.Prelude.{◌≡◌, ℕ, ◌+◌, ◌==◌, if◌then◌else◌, Bool, false, List, [], ◌∷◌, Option, Some, None, count_by, slice_index_or}
use Rattle.pad_text.specs.Text.{CutsPair}
use Rattle.pad_stroke.specs.declared.mark.Mark.{Mark}
use Rattle.pad_stroke.specs.Row.{Row}

-- the unit with this entry is of the stroke
abbrev pub is_of : ℕ → Option Mark → Bool
is_of stroke None = false
is_of stroke (Some mark) = mark.stroke == stroke

-- the unit at this place is
abbrev pub is_unit_of : ℕ → Row → ℕ → Bool
is_unit_of stroke row place = is_of stroke (slice_index_or row place None)

-- how many units are
abbrev pub units_of : ℕ → Row → ℕ
units_of stroke row = count_by (is_of stroke) row

-- the elements of a list, one for each unit, whose units are not of the stroke
abbrev pub without : {A : Type 0} → ℕ → Row → List A → List A
without stroke [] items = []
without stroke (entry ∷ row) [] = []
without stroke (entry ∷ row) (item ∷ items) = if is_of stroke entry then without stroke row items else item ∷ without stroke row items

-- of each surrogate pair of the text both units are of the stroke or neither
abbrev pub KeepsPairs : ℕ → Row → List ℕ → Type 0
KeepsPairs stroke row text = (place : ℕ) → CutsPair text (place + 1) → is_unit_of stroke row place ≡ is_unit_of stroke row (place + 1)
