use Rattle.pad_text.proofs.CallerLemmas.{IsText-nil}
use Rattle.pad_generator.proofs.drafting.operation.Goals as goal

pub from_units-requires : goal.from_units-requires
from_units-requires c = rw c.new.ensures.items IsText-nil
