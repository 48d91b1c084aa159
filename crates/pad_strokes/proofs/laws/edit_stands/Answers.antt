use Rattle.pad_strokes.proofs.Texts.{edit_stands}
use Rattle.pad_strokes.proofs.laws.edit_stands.Goals as goal

pub returns : goal.returns
returns c = edit_stands
