use Rattle.client_laws.proofs.Agreeing.{all_had}
use Rattle.client_laws.proofs.laws.received_are_had.Goals as goal

pub returns : goal.returns
returns c = all_had c.contents_spell_one_message.ensures
