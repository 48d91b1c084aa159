-- What a tree of a text is seen as.
use Rattle.std.specs.Prelude.{◌≡◌, ℕ, ◌+◌, ◌*◌, ◌^◌, ◌<◌, ◌≤◌, max, List, length}
use Rattle.pad_text.specs.Text.{IsText}
use Rattle.pad_rope.specs.declared.tree.TheConstants.{LEAF_SIZE}

-- the units of the text, and the height of the tree, where a leaf has none
pub record Shape : Type 0 where
  pub units : List ℕ
  pub height : ℕ

-- the units are a text, and the height is bounded from both sides by their number
pub record IsSound (shape : Shape) : Type 0 where
  pub text : IsText shape.units
  pub fits : length shape.units < 2 ^ 64
  pub wide : length shape.units ≤ LEAF_SIZE * 2 ^ shape.height
  pub low : 0 < length shape.units → 2 ^ shape.height ≤ length shape.units * length shape.units
  pub empty : length shape.units ≡ 0 → shape.height ≡ 0

-- neither height is more than this above the other
pub record DifferByAtMost (by first second : ℕ) : Type 0 where
  pub first_low : first ≤ second + by
  pub second_low : second ≤ first + by

-- the height of what two sides of these heights are joined to
pub record IsJoinHeight (first second height : ℕ) : Type 0 where
  pub not_lower : max first second ≤ height
  pub one_higher : height ≤ max first second + 1
