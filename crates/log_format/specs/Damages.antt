-- When the file of a log can't be loaded.
use Rattle.std.specs.Prelude.{ℕ, nat_le, List, length, take, Option, Some, None, if◌then◌else◌}
use Rattle.log_format.specs.declared.damage.Damage.{Damage}
use Rattle.log_format.specs.declared.damage.Damage.TheVariants.{Magic, Long, Many}
use Rattle.log_format.specs.declared.form.Form.{Form}
use Rattle.log_format.specs.declared.layout.TheConstants.{MAGIC_SIZE}
use Rattle.log_format.specs.File.{opens}
use Rattle.log_format.specs.Form.{magic_of, most_entries_of, most_bytes_of}

-- by what a file opens as: as nothing, or as too many payloads
abbrev pub damage_opened : Form → List ℕ → Option (List (List ℕ)) → Option Damage
damage_opened form bytes None = Some (Magic (take MAGIC_SIZE bytes))
damage_opened form bytes (Some payloads) = if nat_le (length payloads) (most_entries_of form) then None else Some Many

-- the first damage of a file of this form: too long, no magic, too many entries
abbrev pub damage_of : Form → List ℕ → Option Damage
damage_of form bytes = if nat_le (length bytes) (most_bytes_of form) then damage_opened form bytes (opens (magic_of form) bytes) else Some (Long (length bytes))
