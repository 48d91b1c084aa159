use Rattle.std.proofs.Common.{sym, subst}
use Rattle.pad_strokes.specs.Removal.{IsRemovalOf}
use Rattle.pad_strokes.proofs.Runs.{is_removal}
use Rattle.pad_strokes.proofs.taking_out.removals.Goals as goal

pub returns-clause-takes : goal.returns-clause-takes
returns-clause-takes c = subst (IsRemovalOf c.args.stroke c.args.row.now) (sym c.in_ok-edits.ensures) (is_removal c.args.stroke c.args.row.now)
