-- How a replay ends, and a run whose words are no command.
use Rattle.std.specs.Prelude.{◌≡◌, ℕ, List, [], Option, IfSome}
use Rattle.pad_output.specs.Output.{AppendsPartOfSome}
use Rattle.pad_top.specs.declared.status.Status.{Status}
use Rattle.pad_top.specs.declared.status.Status.TheVariants as status
use Rattle.pad_top.specs.Replay.{IsReplayed, IsPastLimit}
use Rattle.pad_top.specs.Status.{status_line}
use Rattle.pad_top.specs.Words.{IsReplay, IsCommand}

-- when a run that no write stops ends with a status, and all that it writes then; `read_failed` says that a read
-- failed, and what is said of the input holds where it is told
abbrev pub Ends : List (List ℕ) → Option (List ℕ) → Type 0 → Status → List ℕ → Type 0
Ends words input read_failed status.Ok output = IsReplay words × IfSome input (λ bytes. IsReplayed bytes output)
Ends words input read_failed status.Usage output = ¬ (IsCommand words) × (output ≡ status_line status.Usage)
Ends words input read_failed status.ReadFault output = IsReplay words × read_failed × (output ≡ status_line status.ReadFault)
Ends words input read_failed status.WriteFault output = ⊥
Ends words input read_failed status.StoreFault output = ⊥
Ends words input read_failed status.LinkFault output = ⊥
Ends words input read_failed status.Limit output = IsReplay words × IfSome input IsPastLimit × (output ≡ status_line status.Limit)
Ends words input read_failed (status.BadScript number) output = ⊥
Ends words input read_failed status.NoMemory output = IsReplay words × (output ≡ [])
Ends words input read_failed status.Damaged output = ⊥
Ends words input read_failed status.EndedEarly output = ⊥

-- a run that a failed write stopped wrote a part from the front of what it would have written
abbrev pub IsCutShort : List (List ℕ) → Option (List ℕ) → Type 0 → Option (List ℕ) → Option (List ℕ) → Type 0
IsCutShort words input read_failed old new = (status : Status) × AppendsPartOfSome (Ends words input read_failed status) old new
