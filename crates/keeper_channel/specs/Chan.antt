-- A channel's list, by what its two files open as.
use Rattle.std.specs.Prelude.{◌≡◌, ◌⊎◌, ℕ, ◌+◌, Bool, true, false, List, [], ◌∷◌, ◌++◌, take, slice_get, Option, None, Some, MatchBool, if◌then◌else◌}
use Rattle.log_format.specs.declared.form.Form.TheVariants.{Two}
use Rattle.gated_log.specs.Ledger.{has_room}

-- the marker is a payload without bytes
abbrev pub is_marker : List ℕ → Bool
is_marker [] = true
is_marker (byte ∷ bytes) = false

abbrev pub has_marker : List (List ℕ) → Bool
has_marker [] = false
has_marker (payload ∷ payloads) = if is_marker payload then true else has_marker payloads

-- the index of the first marker
abbrev pub MarkerAt : List (List ℕ) → ℕ → Type 0
MarkerAt payloads index = (slice_get payloads index ≡ Some []) × (has_marker (take index payloads) ≡ false)

-- the index of the first marker, or that there is none
abbrev pub FirstMarker : List (List ℕ) → Option ℕ → Type 0
FirstMarker payloads None = has_marker payloads ≡ false
FirstMarker payloads (Some index) = MarkerAt payloads index

-- a list without its first marker
abbrev pub unmarked : List (List ℕ) → List (List ℕ)
unmarked [] = []
unmarked (payload ∷ payloads) = if is_marker payload then payloads else payload ∷ unmarked payloads

-- the moment 0 in front of a payload
abbrev pub at_moment_zero : List ℕ → List ℕ
at_moment_zero payload = 0 ∷ 0 ∷ 0 ∷ 0 ∷ 0 ∷ 0 ∷ 0 ∷ 0 ∷ payload

-- old entries as they are moved
abbrev pub moved : List (List ℕ) → List (List ℕ)
moved [] = []
moved (payload ∷ payloads) = at_moment_zero payload ∷ moved payloads

-- A channel's list: what the file of form Two opens as without its first marker where it has one, and otherwise what the
-- file of form One opens as, moved.
abbrev pub IsChan : (one : List (List ℕ) → Type 0) → (two list : List (List ℕ)) → Type 0
IsChan one two list = MatchBool (has_marker two) (list ≡ unmarked two) ((old : List (List ℕ)) × one old × (list ≡ moved old))

-- the list of a channel in these files
abbrev pub IsList : (opens_one opens_two : (List ℕ → List ℕ) → List (List ℕ) → Type 0) → (files : List ℕ → List ℕ) → (list : List (List ℕ)) → Type 0
IsList opens_one opens_two files list = (two : List (List ℕ)) × opens_two files two × IsChan (opens_one files) two list

-- what is doubtful of the list: that of the file of form Two where it has a marker
abbrev pub doubt_if : Bool → List (List ℕ) → List (List ℕ)
doubt_if true doubt = doubt
doubt_if false doubt = []

-- its list is this, or this and what is in suspense
abbrev pub IsWithin : (List (List ℕ) → Type 0) → (held suspense : List (List ℕ)) → Type 0
IsWithin is held suspense = is held ⊎ is (held ++ suspense)

-- Whether so many entries more, with so many bytes of payload together, fit behind a channel's list: into a file of form Two with
-- that list, one marker, and them.
abbrev pub channel_room : (held : List (List ℕ)) → (entries bytes : ℕ) → Bool
channel_room held entries bytes = has_room Two held (1 + entries) bytes
