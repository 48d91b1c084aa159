-- The names of the files of a segmented log.
use Rattle.std.specs.Prelude.{◌≡◌, ℕ, zero, suc, List, ◌++◌, codes, decimal}

-- segment 0 has the name of the log, and each further one that name, a dot and its number in decimal
abbrev pub segment_name : (name : List ℕ) → ℕ → List ℕ
segment_name name zero = name
segment_name name (suc k) = name ++ (codes "." ++ decimal (suc k))

-- it is the file of some segment
abbrev pub IsSegmentOf : (name file : List ℕ) → Type 0
IsSegmentOf name file = (k : ℕ) × (file ≡ segment_name name k)
