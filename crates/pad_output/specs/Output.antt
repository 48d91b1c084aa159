-- What is written to a sink.
use Rattle.std.specs.Prelude.{ℕ, List, Option}
use Rattle.std.specs.Io.{StartsWith}
use Rattle.std.specs.Io.KnownBytes.{Appends}

-- the bytes written grew by a part from the front of a text
abbrev pub AppendsPart : Option (List ℕ) → Option (List ℕ) → List ℕ → Type 0
AppendsPart old new whole = (part : List ℕ) × StartsWith whole part × Appends old new part

-- the bytes written grew by a text of which this holds
abbrev pub AppendsSome : (List ℕ → Type 0) → Option (List ℕ) → Option (List ℕ) → Type 0
AppendsSome IsOutput old new = (output : List ℕ) × IsOutput output × Appends old new output

-- the bytes written grew by a part from the front of a text of which this holds
abbrev pub AppendsPartOfSome : (List ℕ → Type 0) → Option (List ℕ) → Option (List ℕ) → Type 0
AppendsPartOfSome IsOutput old new = (output : List ℕ) × IsOutput output × AppendsPart old new output
