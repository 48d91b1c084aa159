-- What a node is seen as, and what holds of it.
use Rattle.std.specs.Prelude.{◌≡◌, ℕ, ◌+◌, ◌<◌, ◌≤◌, max, ◌++◌, length}
use Rattle.pad_rope.specs.Inside.Shape.{Shape, IsSound, DifferByAtMost}
use Rattle.pad_rope.specs.declared.tree.TheConstants.{LEAF_SIZE}
use Rattle.pad_rope.specs.declared.tree.Node.{Node}
use Rattle.pad_rope.specs.declared.tree.Node.TheVariants.{Leaf, Fork}

-- the units of both sides, and the height that the node stores
abbrev pub shape_of : Node → Shape
shape_of (Leaf text) = record { units = text; height = 0 }
shape_of (Fork left count height right) = record { units = left.value.units ++ right.value.units; height = height }

-- two sides that make a node with this count of units and this height
pub record IsFork (left right : Shape) (count height : ℕ) : Type 0 where
  pub left_sound : IsSound left
  pub right_sound : IsSound right
  pub left_holds : 0 < length left.units
  pub right_holds : 0 < length right.units
  pub balanced : DifferByAtMost 1 left.height right.height
  pub counted : count ≡ length left.units + length right.units
  pub measured : height ≡ max left.height right.height + 1

-- what holds of a node beside what its sides say
abbrev pub IsKind : Node → Type 0
IsKind (Leaf text) = length text ≤ LEAF_SIZE
IsKind (Fork left count height right) = IsFork left.value right.value count height

-- a node of the tree
pub record IsNode (node : Node) : Type 0 where
  pub kind : IsKind node
  pub sound : IsSound (shape_of node)
