-- What a run writes last, by the status that it ends with.
use Rattle.std.specs.Prelude.{ℕ, List, [], ◌∷◌, ◌++◌, codes, decimal}
use Rattle.pad_top.specs.declared.status.Status.{Status}
use Rattle.pad_top.specs.declared.status.Status.TheVariants as status
use Rattle.pad_lines.specs.Line.{newline}

-- the line that tells why a run ended early; none where it did not, nor after a failed write or for want of memory
abbrev pub status_line : Status → List ℕ
status_line status.Ok = []
status_line status.Usage = codes "usage" ++ newline ∷ []
status_line status.ReadFault = codes "read fault" ++ newline ∷ []
status_line status.WriteFault = []
status_line status.StoreFault = codes "store fault" ++ newline ∷ []
status_line status.LinkFault = codes "link fault" ++ newline ∷ []
status_line status.Limit = codes "limit" ++ newline ∷ []
status_line (status.BadScript number) = codes "bad script line " ++ decimal number ++ newline ∷ []
status_line status.NoMemory = []
status_line status.Damaged = codes "damaged" ++ newline ∷ []
status_line status.EndedEarly = codes "ended early" ++ newline ∷ []

-- the number that a program ends with
abbrev pub status_number : Status → ℕ
status_number status.Ok = 0
status_number status.Usage = 2
status_number status.ReadFault = 3
status_number status.WriteFault = 4
status_number status.StoreFault = 5
status_number status.LinkFault = 6
status_number status.Limit = 7
status_number (status.BadScript number) = 8
status_number status.NoMemory = 9
status_number status.Damaged = 10
status_number status.EndedEarly = 11
