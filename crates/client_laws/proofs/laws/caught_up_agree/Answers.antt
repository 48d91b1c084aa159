use Rattle.client_laws.proofs.Agreeing.{agrees}
use Rattle.client_laws.proofs.laws.caught_up_agree.Goals as goal

pub returns : goal.returns
returns c = agrees c.contents_spell_one_message.ensures c.received_are_had.ensures c.repaired_is_best.ensures c.own_wait_or_left.ensures
