use Rattle.client_laws.proofs.Agreeing.{one_text}
use Rattle.client_laws.proofs.laws.agreeing_texts_are_one.Goals as goal

pub returns : goal.returns
returns c = one_text c.at_most_one_best.ensures c.order_is_no_part.ensures
