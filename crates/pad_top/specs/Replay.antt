-- What a replay of an input gives.
use Rattle.std.specs.Prelude.{◌≡◌, ℕ, ◌≤◌, ◌<◌, ◌⊎◌, List, length}
use Rattle.pad_message.specs.declared.message.Message.{Message}
use Rattle.pad_model.specs.Base.{first_base}
use Rattle.pad_model.specs.Path.{NamesDiffer}
use Rattle.pad_model.specs.Best.{IsBest}
use Rattle.pad_model.specs.Report.{IsReport}
use Rattle.pad_top.specs.Input.{most_bytes}
use Rattle.pad_lines.specs.Line.{lines_of}
use Rattle.pad_top.specs.Received.{IsTaken, MeetsOneTooMany}

-- The output is the report of what the lines of the input read as, from the first base on, where no two different
-- messages have one name. Where it says that nothing overtook, it tells the best chain of all these messages.
pub record IsReplayed (input output : List ℕ) : Type 0 where
  pub short : length input ≤ most_bytes
  pub messages : List Message
  pub unreadable : ℕ
  pub taken : IsTaken (lines_of input) messages unreadable
  pub report : NamesDiffer messages → IsReport first_base messages unreadable output
  pub best : (differ : NamesDiffer messages) → (report differ).choice.overtaken ≡ 0 → IsBest first_base messages (report differ).choice.chosen

-- the input has too many bytes, or else one of its lines is the first that brings one name too many
abbrev pub IsPastLimit : List ℕ → Type 0
IsPastLimit input = (most_bytes < length input) ⊎ ((length input ≤ most_bytes) × MeetsOneTooMany (lines_of input))
