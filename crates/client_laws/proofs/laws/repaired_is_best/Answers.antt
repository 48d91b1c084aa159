use Rattle.client_laws.proofs.Agreeing.{is_best}
use Rattle.client_laws.proofs.laws.repaired_is_best.Goals as goal

pub returns : goal.returns
returns c = is_best c.contents_spell_one_message.ensures
