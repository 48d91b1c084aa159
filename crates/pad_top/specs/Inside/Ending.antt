-- How the last text of a run was written.
use Rattle.std.specs.Prelude.{◌≡◌, ℕ, ◌⊎◌, List, [], Option}
use Rattle.std.specs.Io.KnownBytes.{Appends}
use Rattle.pad_top.specs.declared.status.Status.{Status}
use Rattle.pad_top.specs.declared.status.Status.TheVariants as status
use Rattle.pad_output.specs.Output.{AppendsPart}
use Rattle.pad_top.specs.Status.{status_line}

-- a text was written to its end, and the status is the one wanted; or a write failed
abbrev pub IsEnd : Option (List ℕ) → Option (List ℕ) → Type 0 → List ℕ → Status → Status → Type 0
IsEnd old new write_failed text wanted result = ((result ≡ wanted) × Appends old new text) ⊎ ((result ≡ status.WriteFault) × write_failed × AppendsPart old new text)

-- the line of a status that has no number in it
abbrev pub fixed_line : Status → List ℕ
fixed_line status.Ok = status_line status.Ok
fixed_line status.Usage = status_line status.Usage
fixed_line status.ReadFault = status_line status.ReadFault
fixed_line status.WriteFault = status_line status.WriteFault
fixed_line status.StoreFault = status_line status.StoreFault
fixed_line status.LinkFault = status_line status.LinkFault
fixed_line status.Limit = status_line status.Limit
fixed_line (status.BadScript number) = []
fixed_line status.NoMemory = status_line status.NoMemory
fixed_line status.Damaged = status_line status.Damaged
fixed_line status.EndedEarly = status_line status.EndedEarly
