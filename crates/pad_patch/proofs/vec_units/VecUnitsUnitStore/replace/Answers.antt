use Rattle.std.proofs.Common.{◌≡◌, ◌++◌, take, drop, arith}
use Rattle.std.proofs.lemmas.Grind.{common_steps}
use Rattle.pad_text.proofs.CallerLemmas.{IsText-take, IsText-drop, IsText-append}
use Rattle.pad_patch.specs.UnitStore.{replaced}
use Rattle.pad_patch.proofs.vec_units.VecUnitsUnitStore.replace.Goals as goal

pub from_units-requires : goal.from_units-requires
from_units-requires c =
    let text = c.args.self.now.text in
    let is : c.extend_from_slice-2.new.self.items ≡ replaced c.args.from c.args.to c.args.insert.now text = grind (arith, common_steps) in
    let head = IsText-take text c.args.from c.args.self.now.is_text c.requires.starts_whole in
    let tail = IsText-drop text c.args.to c.args.self.now.is_text c.requires.ends_whole in
    let front = IsText-append (take c.args.from text) c.args.insert.now head c.as_units.ensures.text in
    rw is (IsText-append (take c.args.from text ++ c.args.insert.now) (drop c.args.to text) front tail)
