use Rattle.std.proofs.Common.{sym, subst}
use Rattle.pad_stroke.specs.Work.{Marked}
use Rattle.client_work.specs.Carrying.{AreReady, all_moves}
use Rattle.client_copy.proofs.carrying.bring_along.Goals as goal

pub carry-requires : goal.carry-requires
carry-requires c =
    (c.requires.0, subst (λ (w : Marked). AreReady c.requires.0 c.args.sent.now.entries (all_moves c.args.moved.now) c.args.size c.args.end.now w) (sym c.replace-next.ensures.value) c.requires.1)
