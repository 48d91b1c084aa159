use Rattle.pad_model.proofs.Reports.{repeat_changes_no_report}
use Rattle.pad_model.proofs.laws.repeat_changes_no_report.Goals as goal

pub returns : goal.returns
returns c = repeat_changes_no_report
