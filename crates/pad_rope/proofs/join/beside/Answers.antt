use Rattle.std.proofs.Common.{◌≡◌, ◌++◌, arith}
use Rattle.std.proofs.lemmas.Grind.{common_steps}
use Rattle.pad_text.proofs.CallerLemmas.{IsText-append}
use Rattle.pad_rope.proofs.join.beside.Goals as goal

pub from_units-requires : goal.from_units-requires
from_units-requires c =
    let is : c.extend_from_slice.new.self.items ≡ c.in-Leaf-Leaf.first ++ c.in-Leaf-Leaf.second = grind (arith, common_steps) in
    rw is (IsText-append c.in-Leaf-Leaf.first c.in-Leaf-Leaf.second c.as_units.ensures.text c.as_units-then-len-le-LEAF_SIZE.ensures.text)
