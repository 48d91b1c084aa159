use Rattle.pad_message.proofs.OneMessage.{spells_one}
use Rattle.pad_message.proofs.laws.contents_spell_one_message.Goals as goal

pub returns : goal.returns
returns c = spells_one
