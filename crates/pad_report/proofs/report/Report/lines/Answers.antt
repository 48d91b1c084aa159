use Rattle.std.proofs.Common.{◌∙◌}
use Rattle.pad_report.proofs.report.Report.lines.Goals as goal

pub returns : goal.returns
returns c = c.in_ok-push_text.ensures ∙ c.in_ok-lines.ensures
