use Rattle.keeper_channel.proofs.Chans.{moved_unmarked, moved_marked, moved_without}
use Rattle.keeper_channel.proofs.laws.moved_entries_are_the_list.Goals as goal

pub returns : goal.returns
returns c = λ old. (moved_unmarked old, moved_marked old, moved_without old)
