use Rattle.std.proofs.Common.{◌≡◌, ◌++◌, take, drop, arith}
use Rattle.std.proofs.lemmas.Grind.{common_steps}
use Rattle.pad_text.proofs.CallerLemmas.{IsText-take, IsText-drop, IsText-append}
use Rattle.pad_patch.specs.UnitStore.{replaced}
use Rattle.pad_rope.proofs.edit.replace_in_leaf.Goals as goal

pub build-requires : goal.build-requires
build-requires c =
    let text = c.args.text.now in
    let is : c.extend_from_slice-2.new.self.items ≡ replaced c.args.from c.args.to c.args.insert.now text = grind (arith, common_steps) in
    let head = IsText-take text c.args.from c.as_units-units.ensures.text c.requires.range.starts_whole in
    let tail = IsText-drop text c.args.to c.as_units-units.ensures.text c.requires.range.ends_whole in
    let front = IsText-append (take c.args.from text) c.args.insert.now head c.requires.insert in
    rw (c.as_slice.ensures.value, is) (IsText-append (take c.args.from text ++ c.args.insert.now) (drop c.args.to text) front tail)
