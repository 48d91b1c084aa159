-- What is told of what was received.
use Rattle.std.specs.Prelude.{◌≡◌, reverse}
use Rattle.pad_model.specs.Base.{first_base}
use Rattle.pad_model.specs.Choice.{Choice, IsChoice}
use Rattle.pad_model.specs.Count.{AreCounts}
use Rattle.pad_model.specs.Path.{text}
use Rattle.pad_model.specs.Report.{report_values}
use Rattle.pad_report.specs.declared.report.Report.{Report}
use Rattle.pad_report.specs.Report.{values}
use Rattle.pad_received.specs.Progress.{Progress}

-- this tells the choice of the messages received, and their counts
pub record Tells (progress : Progress) (choice : Choice) (report : Report) : Type 0 where
  pub is_choice : IsChoice first_base (reverse progress.messages) choice
  pub counts : AreCounts first_base progress.messages choice.root report.known report.waiting report.kept
  pub told : values report (text first_base choice.chosen) ≡ report_values first_base choice report.known report.waiting progress.unreadable report.kept
