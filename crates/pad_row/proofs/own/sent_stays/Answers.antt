use Rattle.pad_row.proofs.Steps.{sent_stays}
use Rattle.pad_row.proofs.own.sent_stays.Goals as goal

pub returns : goal.returns
returns c = sent_stays
