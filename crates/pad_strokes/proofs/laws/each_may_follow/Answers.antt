use Rattle.pad_strokes.proofs.Allowed.{each_may_follow}
use Rattle.pad_strokes.proofs.laws.each_may_follow.Goals as goal

pub returns : goal.returns
returns c = each_may_follow
