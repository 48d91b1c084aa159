-- What the segments of a log open as together: their lists one after the other, up to the first that opens as empty.
use Rattle.std.specs.Prelude.{◌≡◌, ◌<◌, ℕ, zero, suc, Bool, true, false, List, [], ◌∷◌, ◌++◌, Option, Some, None}
use Rattle.log_format.specs.declared.form.Form.{Form}
use Rattle.log_format.specs.File.{opens}
use Rattle.log_format.specs.Form.{magic_of}
use Rattle.segment_files.specs.Names.{segment_name}

-- what a segment opens as
abbrev pub segment_opens : Form → (name : List ℕ) → (files : List ℕ → List ℕ) → ℕ → Option (List (List ℕ))
segment_opens form name files k = opens (magic_of form) (files (segment_name name k))

-- whether it opens with payloads: not as empty, and not as nothing
abbrev pub has_payloads : Option (List (List ℕ)) → Bool
has_payloads None = false
has_payloads (Some []) = false
has_payloads (Some (payload ∷ payloads)) = true

-- each segment before this one opens with payloads, so a load comes to this one
abbrev pub IsReached : (opened : ℕ → Option (List (List ℕ))) → ℕ → Type 0
IsReached opened k = (j : ℕ) → j < k → has_payloads (opened j) ≡ true

-- the first segments, so many, open with payloads, and these are theirs, one list after the other
abbrev pub Filled : (opened : ℕ → Option (List (List ℕ))) → (count : ℕ) → List (List ℕ) → Type 0
Filled opened zero payloads = payloads ≡ []
Filled opened (suc count) payloads =
    (front : List (List ℕ)) × (last : List (List ℕ)) × Filled opened count front × (opened count ≡ Some last) × (has_payloads (Some last) ≡ true) × (payloads ≡ front ++ last)

-- the segments up to the first that opens as empty have these payloads
abbrev pub Joins : (opened : ℕ → Option (List (List ℕ))) → List (List ℕ) → Type 0
Joins opened payloads = (count : ℕ) × Filled opened count payloads × (opened count ≡ Some [])

-- the segments of this name open together as these payloads
abbrev pub opens_joined : Form → (name : List ℕ) → (files : List ℕ → List ℕ) → List (List ℕ) → Type 0
opens_joined form name files = Joins (segment_opens form name files)
