-- The report of a client.
use Rattle.std.specs.Prelude.{◌≡◌, ℕ, ◌-◌, ◌^◌, min, List, ◌++◌, length, codes, decimal}
use Rattle.pad_patch.specs.Piece.{text_after}
use Rattle.pad_chain.specs.Tie.{IsChosen}
use Rattle.pad_model.specs.Best.{IsBest}
use Rattle.pad_model.specs.Count.{AreCounts}
use Rattle.pad_model.specs.Path.{NamesDiffer}
use Rattle.pad_model.specs.Report.{line, json_string, report_values, report_lines}
use Rattle.client_copy.specs.Pad.{committed}
use Rattle.pad_client.specs.State.{ClientState}

-- the text that the client's user sees: the committed text with the work
abbrev pub shown : ClientState → List ℕ
shown client = text_after client.copy.work.patch (committed client.copy.pad)

-- The eleven lines on its pad: what is chosen of the messages received since the base. Where nothing overtook, they tell the best
-- chain of all these. As contents that spelled no message at most 2^64 - 1 are told.
pub record IsPadReport (client : ClientState) (bytes : List ℕ) : Type 0 where
  pub chosen : IsChosen client.copy.pad.whole client.copy.pad.base client.copy.pad.received client.copy.pad.choice
  pub best : NamesDiffer client.copy.pad.received → client.copy.pad.choice.overtaken ≡ 0 → IsBest client.copy.pad.base client.copy.pad.received client.copy.pad.choice.chosen
  pub known : ℕ
  pub waiting : ℕ
  pub kept : ℕ
  pub counts : AreCounts client.copy.pad.base client.copy.pad.received client.copy.pad.choice.root known waiting kept
  pub lines : bytes ≡ report_lines (report_values client.copy.pad.base client.copy.pad.choice known waiting (min client.unreadable (2 ^ 64 - 1)) kept)

-- the three lines on its own work: how many messages were not acknowledged, the operations of the work, the shown text
abbrev pub own_lines : ℕ → ℕ → List ℕ → List ℕ
own_lines outbox work text = line (codes "outbox") (decimal outbox) ++ line (codes "work") (decimal work) ++ line (codes "shown") (json_string text)

-- the lines on its pad, and then those
pub record IsClientReport (client : ClientState) (bytes : List ℕ) : Type 0 where
  pub pad : List ℕ
  pub of_pad : IsPadReport client pad
  pub lines : bytes ≡ pad ++ own_lines (length client.requests.outbox) (length client.copy.work.patch.ops) (shown client)
