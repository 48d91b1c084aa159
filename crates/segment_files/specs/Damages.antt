-- The damage of a segmented log: that of a segment that is read, the lowest first, and then that of all of them together.
use Rattle.std.specs.Prelude.{ℕ, zero, suc, ◌+◌, ◌*◌, nat_le, List, [], ◌∷◌, ◌++◌, length, Option, Some, None, if◌then◌else◌}
use Rattle.log_format.specs.declared.damage.Damage.{Damage}
use Rattle.log_format.specs.declared.damage.Damage.TheVariants.{Long, Many}
use Rattle.log_format.specs.declared.form.Form.{Form}
use Rattle.log_format.specs.declared.layout.TheConstants.{ENTRY_HEAD, EMPTY_LOG}
use Rattle.log_format.specs.Damages.{damage_of}
use Rattle.log_format.specs.Form.{most_entries_of, most_bytes_of}
use Rattle.log_format.specs.Frames.{size_of}
use Rattle.segment_files.specs.Doubt.{most_segments}
use Rattle.segment_files.specs.Joined.{segment_opens, has_payloads}
use Rattle.segment_files.specs.Names.{segment_name}

-- how many bytes one file of these payloads has
abbrev pub bytes_of : List (List ℕ) → ℕ
bytes_of payloads = EMPTY_LOG + ENTRY_HEAD * length payloads + size_of payloads

-- the damage of one file of these payloads
abbrev pub joint_damage : Form → List (List ℕ) → Option Damage
joint_damage form payloads =
    if nat_le (bytes_of payloads) (most_bytes_of form) then (if nat_le (length payloads) (most_entries_of form) then None else Some Many) else Some (Long (bytes_of payloads))

-- the first of these, or else the second
abbrev pub or_damage : Option Damage → Option Damage → Option Damage
or_damage None other = other
or_damage (Some damage) other = Some damage

-- the first damage that a segment has by itself, of those from one on up to the first without payloads, that one included
abbrev pub own_damage : (opened : ℕ → Option (List (List ℕ))) → (damaged : ℕ → Option Damage) → (most k : ℕ) → Option Damage
own_damage opened damaged zero k = None
own_damage opened damaged (suc most) k = or_damage (damaged k) (if has_payloads (opened k) then own_damage opened damaged most (suc k) else None)

-- the payloads of a segment, none where it opens as nothing
abbrev pub list_of : Option (List (List ℕ)) → List (List ℕ)
list_of None = []
list_of (Some payloads) = payloads

-- the payloads of the segments from one on up to the first without any, of at most so many segments
abbrev pub lists_from : (opened : ℕ → Option (List (List ℕ))) → (most k : ℕ) → List (List ℕ)
lists_from opened zero k = []
lists_from opened (suc most) k = if has_payloads (opened k) then list_of (opened k) ++ lists_from opened most (suc k) else []

-- the damage that a segment has by itself
abbrev pub segment_damage : Form → (name : List ℕ) → (files : List ℕ → List ℕ) → ℕ → Option Damage
segment_damage form name files k = damage_of form (files (segment_name name k))

-- A segment's own damage counts first, and that of the lowest segment. Then the limits count, as of one file of all payloads.
abbrev pub damage_joined : Form → (name : List ℕ) → (files : List ℕ → List ℕ) → Option Damage
damage_joined form name files =
    or_damage (own_damage (segment_opens form name files) (segment_damage form name files) (most_segments form) 0)
    (joint_damage form (lists_from (segment_opens form name files) (most_segments form) 0))
