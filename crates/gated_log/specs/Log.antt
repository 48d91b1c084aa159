-- What a log says of its file.
use Rattle.std.specs.Prelude.{◌≡◌, ℕ, ◌+◌, ◌*◌, ◌-◌, ◌==◌, ◌&&◌, not, ◌≤◌, nat_le, length, take, drop, slice_index, Bool, true, false, List, [], string_bytes, vec_len, vec_capacity}
use Rattle.disk_volume.specs.Disk.{Disk}
use Rattle.log_format.specs.declared.form.Form.{Form}
use Rattle.log_format.specs.declared.layout.TheConstants.{MAGIC_SIZE, ENTRY_HEAD, EMPTY_LOG}
use Rattle.log_format.specs.File.{last_from}
use Rattle.log_format.specs.Form.{magic_of, most_entries_of, most_bytes_of}
use Rattle.gated_log.specs.declared.log.Log.{Log}
use Rattle.gated_log.specs.Extents.{extents}
use Rattle.gated_log.specs.Holds.{Holds, IsShort}

-- the last gate is in the file, and closed
abbrev pub is_primed : Log → Bool
is_primed log = not log.short && (log.gate.byte == 0)

-- a file that begins with the magic of this form, and whose last gate is there and closed
pub record IsClosed (form : Form) (bytes : List ℕ) : Type 0 where
  pub begins : take MAGIC_SIZE bytes ≡ magic_of form
  pub has_gate : EMPTY_LOG ≤ length bytes
  pub closed : slice_index (last_from (length bytes) (drop MAGIC_SIZE bytes)) 0 ≡ 0

-- how many entries its index has room for
abbrev pub spare : Log → ℕ
spare log = vec_capacity log.index - vec_len log.index

-- whether so many entries more, with so many bytes of payload together, fit
abbrev pub fits : Log → (entries bytes : ℕ) → Bool
fits log entries bytes =
    nat_le (vec_len log.index + entries) (most_entries_of log.form) && nat_le (log.gate.place + 1 + ENTRY_HEAD * entries + bytes) (most_bytes_of log.form)

-- a file that may be too short for a gate
abbrev pub HoldsFile : (form : Form) (short : Bool) (name : List ℕ) (gate byte : ℕ) (payloads : List (List ℕ)) → Disk → Type 0
HoldsFile form true name gate byte payloads disk = IsShort name disk × (payloads ≡ []) × (gate ≡ MAGIC_SIZE)
HoldsFile form false name gate byte payloads disk = Holds (magic_of form) name gate byte payloads disk

-- on this disk the log's file holds these payloads, and nothing is pending on it
pub record Stands (log : Log) (payloads : List (List ℕ)) (disk : Disk) : Type 0 where
  pub indexed : log.index.items ≡ extents MAGIC_SIZE payloads
  pub file : HoldsFile log.form log.short (string_bytes log.file) log.gate.place log.gate.byte payloads disk
