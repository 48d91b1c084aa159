use Rattle.pad_model.proofs.Existence.{one_report_exists}
use Rattle.pad_model.proofs.laws.one_report_exists.Goals as goal

pub returns : goal.returns
returns c = one_report_exists
