use Rattle.pad_patch.proofs.Undone.{patched-inverse}
use Rattle.pad_patch.proofs.laws.inverse_gives_lists_back.Goals as goal

pub returns : goal.returns
returns g c = patched-inverse
