-- What was received of a whole text.
use Rattle.std.specs.Prelude.{ℕ, List}
use Rattle.pad_lines.specs.Line.{lines_of}
use Rattle.pad_received.specs.Contents.{AreReadAs}
use Rattle.pad_received.specs.Progress.{Progress, IsAt}
use Rattle.pad_received.specs.declared.received.Received.{Received}

-- it is what all lines of the text read as
abbrev pub IsWholeAt : List ℕ → Received → Type 0
IsWholeAt text received = (progress : Progress) × AreReadAs (lines_of text) progress.messages progress.unreadable × IsAt received progress
