-- The runs of units of a stroke, from left to right.
use Rattle.std.specs.Prelude.{ℕ, zero, suc, ◌+◌, ◌-◌, if◌then◌else◌, List, [], ◌∷◌, ◌++◌}
use Rattle.pad_patch.specs.declared.operation.Operation.{Operation}
use Rattle.pad_stroke.specs.Row.{Row}
use Rattle.pad_strokes.specs.Row.{is_of}

-- takes out so many units that end at a place
abbrev pub removal : ℕ → ℕ → Operation
removal end count = record { offset = end - count; remove = count; insert = [] }

-- if there are any
abbrev pub closed : ℕ → ℕ → List Operation
closed end zero = []
closed end (suc count) = removal end (suc count) ∷ []

-- `place` units stand before the row, of which the last `run` are of the stroke
abbrev pub runs_from : ℕ → ℕ → ℕ → Row → List Operation
runs_from stroke place run [] = closed place run
runs_from stroke place run (entry ∷ row) =
    if is_of stroke entry then runs_from stroke (place + 1) (run + 1) row else closed place run ++ runs_from stroke (place + 1) 0 row

abbrev pub runs : ℕ → Row → List Operation
runs stroke row = runs_from stroke 0 0 row
