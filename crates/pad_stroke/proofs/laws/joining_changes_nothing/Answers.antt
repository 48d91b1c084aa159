use Rattle.pad_stroke.proofs.JoinedText.{joining_changes_nothing}
use Rattle.pad_stroke.proofs.laws.joining_changes_nothing.Goals as goal

pub returns : goal.returns
returns c = joining_changes_nothing
