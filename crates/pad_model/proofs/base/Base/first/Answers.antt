use Rattle.std.proofs.Common.{sym, subst}
use Rattle.pad_text.specs.Text.{IsText}
use Rattle.pad_model.proofs.base.Base.first.Goals as goal

pub from_units-requires : goal.from_units-requires
from_units-requires c = subst IsText (sym c.new.ensures.items) c.texts_are_kept_by_cuts.ensures.empty
