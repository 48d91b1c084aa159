use Rattle.pad_model.proofs.Reports.{one_report}
use Rattle.pad_model.proofs.laws.at_most_one_report.Goals as goal

pub returns : goal.returns
returns c = one_report
