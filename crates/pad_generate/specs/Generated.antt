-- What is written of generated messages.
use Rattle.std.specs.Prelude.{◌≡◌, ℕ, List, ◌++◌, codes, decimal}
use Rattle.std.specs.List.{AllZip}
use Rattle.pad_message.specs.declared.message.Message.{Message}
use Rattle.pad_message.specs.Content.{Reads}
use Rattle.pad_model.specs.Base.{first_base}
use Rattle.pad_model.specs.Path.{NamesDiffer}
use Rattle.pad_model.specs.Report.{line}
use Rattle.pad_generator.specs.Contents.{contents}
use Rattle.pad_received.specs.Report.{IsSummary}

-- The output is `generated` and the count, and then the report, without its text, of the messages that the contents of the number read
-- as, in the order in which they are given out, from the first base on, where no two different messages have one name. Each of the
-- contents reads as one, so none is unreadable.
pub record IsGenerated (number count : ℕ) (output : List ℕ) : Type 0 where
  pub messages : List Message
  pub read : AllZip Reads (contents number count) messages
  pub summary : List ℕ
  pub parts : output ≡ line (codes "generated") (decimal count) ++ summary
  pub report : NamesDiffer messages → IsSummary first_base messages 0 summary
