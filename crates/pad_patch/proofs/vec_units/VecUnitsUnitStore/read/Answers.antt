use Rattle.std.proofs.Common.{◌≡◌, ◌-◌, take, drop, rules}
use Rattle.pad_text.proofs.CallerLemmas.{IsText-between}
use Rattle.pad_patch.proofs.vec_units.VecUnitsUnitStore.read.Goals as goal

pub from_units-requires : goal.from_units-requires
from_units-requires c =
    let text = c.args.self.now.text in
    let is : c.in_ok-units.units.items ≡ take (c.args.to - c.args.from) (drop c.args.from text) = search rules in
    rw is (IsText-between text c.args.from c.args.to c.args.self.now.is_text c.requires.ordered c.requires.starts_whole c.requires.ends_whole)
