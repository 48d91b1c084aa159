use Rattle.keeper_channel.proofs.Chans.{marked_more, unmarked_more}
use Rattle.keeper_channel.proofs.laws.what_follows_a_marker_is_appended.Goals as goal

pub returns : goal.returns
returns c = λ two more some. (marked_more two more some, unmarked_more two more some)
