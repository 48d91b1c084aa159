-- When nothing is pending on the files of a segmented log that a load reads.
use Rattle.std.specs.Prelude.{ℕ, List}
use Rattle.disk_volume.specs.Disk.{Disk, reads, AtRest}
use Rattle.log_format.specs.declared.form.Form.{Form}
use Rattle.segment_files.specs.Joined.{segment_opens, IsReached}
use Rattle.segment_files.specs.Names.{segment_name}

-- nothing is pending on each segment to which a load comes: those up to the first that opens as empty, that one included
abbrev pub rests_joined : Form → (name : List ℕ) → Disk → Type 0
rests_joined form name disk = (k : ℕ) → IsReached (segment_opens form name (reads disk)) k → AtRest disk (segment_name name k)
