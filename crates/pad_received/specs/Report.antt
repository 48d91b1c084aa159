-- The report of what was received, without its text.
use Rattle.std.specs.Prelude.{◌≡◌, ℕ, List, ◌++◌, codes}
use Rattle.pad_message.specs.declared.message.Message.{Message}
use Rattle.pad_model.specs.declared.base.Base.{Base}
use Rattle.pad_model.specs.Path.{text}
use Rattle.pad_model.specs.Report.{line, json_string, IsReport}

-- the bytes are the report of the messages received and of this many other contents, without its last line: the line of the text
pub record IsSummary (base : Base) (received : List Message) (unreadable : ℕ) (bytes : List ℕ) : Type 0 where
  pub report : List ℕ
  pub is_report : IsReport base received unreadable report
  pub without_text : bytes ++ line (codes "text") (json_string (text base is_report.choice.chosen)) ≡ report
