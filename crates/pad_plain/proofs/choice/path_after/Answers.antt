use Rattle.std.proofs.Common.{refl}
use Rattle.pad_plain.proofs.Choosing.{old_is_best}
use Rattle.pad_plain.proofs.choice.path_after.Goals as goal

pub returns-in-None-clause-best : goal.returns-in-None-clause-best
returns-in-None-clause-best c d through root is =
    let only = rw c.in-None.is at c.in_ok-path.ensures.none in
    old_is_best c.args.base.now c.args.received.now through c.args.before (only refl d through root) is
