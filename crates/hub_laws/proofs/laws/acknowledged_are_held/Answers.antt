use Rattle.hub_laws.proofs.Acknowledging.{all_acks}
use Rattle.hub_laws.proofs.laws.acknowledged_are_held.Goals as goal

pub returns : goal.returns
returns g c = all_acks g.K.Keep.logs c.texts_spell_one_request.ensures
