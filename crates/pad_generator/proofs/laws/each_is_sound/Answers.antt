use Rattle.pad_generator.proofs.Sound.{each_is_sound}
use Rattle.pad_generator.proofs.laws.each_is_sound.Goals as goal

pub returns : goal.returns
returns c = each_is_sound
