use Rattle.pad_patch.proofs.Copies.{IsText-text_after}
use Rattle.pad_patch.proofs.laws.texts_stay_texts.Goals as goal

pub returns : goal.returns
returns c = IsText-text_after
