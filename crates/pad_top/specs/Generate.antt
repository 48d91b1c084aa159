-- What a run of `generate` ends with and writes.
use Rattle.std.specs.Prelude.{◌≡◌, ℕ, List, [], Option}
use Rattle.pad_generate.specs.Generated.{IsGenerated}
use Rattle.pad_output.specs.Output.{AppendsPartOfSome}
use Rattle.pad_top.specs.declared.status.Status.{Status}
use Rattle.pad_top.specs.declared.status.Status.TheVariants as status

-- when a run of `generate` that no write stops ends with a status, and all that it writes then
abbrev pub GenerateEnds : (number count : ℕ) → Status → List ℕ → Type 0
GenerateEnds number count status.Ok output = IsGenerated number count output
GenerateEnds number count status.Usage output = ⊥
GenerateEnds number count status.ReadFault output = ⊥
GenerateEnds number count status.WriteFault output = ⊥
GenerateEnds number count status.StoreFault output = ⊥
GenerateEnds number count status.LinkFault output = ⊥
GenerateEnds number count status.Limit output = ⊥
GenerateEnds number count (status.BadScript line) output = ⊥
GenerateEnds number count status.NoMemory output = output ≡ []
GenerateEnds number count status.Damaged output = ⊥
GenerateEnds number count status.EndedEarly output = ⊥

-- a run of `generate` that a failed write stopped wrote a part from the front of what it would have written
abbrev pub GenerateIsCutShort : (number count : ℕ) → (old new : Option (List ℕ)) → Type 0
GenerateIsCutShort number count old new = (status : Status) × AppendsPartOfSome (GenerateEnds number count status) old new
