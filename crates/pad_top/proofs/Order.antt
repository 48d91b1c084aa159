-- Where nothing overtook, order changes nothing of the best chain.
use Rattle.pad_model.specs.Base.{first_base}
use Rattle.pad_model.proofs.CallerLemmas as model
use Rattle.pad_top.specs.Laws.{OrderChangesNoBest}

pub order_changes_no_best : OrderChangesNoBest
order_changes_no_best input other output text one two same differ differs none nothing =
    model.order_changes_no_best first_base one.messages two.messages one.unreadable two.unreadable output text differ same (one.report differ) (two.report differs) none nothing
