-- What is doubtful in a segmented log.
use Rattle.std.specs.Prelude.{ℕ, zero, suc, ◌+◌, List, Option, if◌then◌else◌}
use Rattle.log_format.specs.declared.form.Form.{Form}
use Rattle.log_format.specs.File.{doubt_of}
use Rattle.log_format.specs.Form.{most_entries_of}
use Rattle.segment_files.specs.Joined.{segment_opens, has_payloads}
use Rattle.segment_files.specs.Names.{segment_name}

-- the last of the segments from one on, at most so many, before the first that has no payloads, or the one before them
abbrev pub last_filled : (opened : ℕ → Option (List (List ℕ))) → (most k before : ℕ) → ℕ
last_filled opened zero k before = before
last_filled opened (suc most) k before = if has_payloads (opened k) then last_filled opened most (suc k) k else before

-- As many segments are looked at as can have payloads in a log of this form, and one more. Each has a payload at least, so
-- in files without damage the first that opens as empty is among them.
abbrev pub most_segments : Form → ℕ
most_segments form = most_entries_of form + 1

-- the doubt of the last segment that is not empty, or of segment 0
abbrev pub doubt_joined : Form → (name : List ℕ) → (files : List ℕ → List ℕ) → List (List ℕ)
doubt_joined form name files = doubt_of (files (segment_name name (last_filled (segment_opens form name files) (most_segments form) 0 0)))
