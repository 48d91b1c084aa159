-- How many closings there may still be.
use Rattle.std.specs.Prelude.{◌≤◌, ℕ, zero, suc, ◌+◌, List, [], ◌∷◌, length, if◌then◌else◌}
use Rattle.serve_loop.specs.Connected.{is_among, GoesTo}
use Rattle.serve_loop.specs.declared.out.Out.{Out}

-- how many of these connections do not wait
abbrev pub free : (connections waiting : List ℕ) → ℕ
free [] waiting = zero
free (connection ∷ connections) waiting = if is_among waiting connection then free connections waiting else suc (free connections waiting)

-- how many closings there may still be: of those that wait, and of those that may fail
abbrev pub load : (connections waiting : List ℕ) → ℕ
load connections waiting = length waiting + free connections waiting

-- sends to open connections add no closings that were not counted before
abbrev pub KeepsLoad : List Out → (before now : List ℕ) → Type 0
KeepsLoad outs before now = (connections : List ℕ) → GoesTo connections outs → load connections now ≤ load connections before
