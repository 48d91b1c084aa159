use Rattle.std.proofs.Common.{◌≡◌, ℕ, ◌-◌, ◌≤◌, List, take, drop}
use Rattle.pad_text.specs.Text.{IsText, CutsPair}
use Rattle.pad_text.proofs.Texts.{IsText-between}
use Rattle.pad_text.proofs.text.Text.slice.Goals as goal

-- the units between two places that cut no pair of the text
between : (units text lent part : List ℕ) (from to : ℕ) → units ≡ text → lent ≡ units → IsText units → from ≤ to → ¬ (CutsPair text from) → ¬ (CutsPair text to)
    → part ≡ take (to - from) (drop from lent) → IsText part
between units text lent part from to same read is order start end cut =
    rw (cut, read) (IsText-between units from to is order (rw same start) (rw same end))

pub invariant_of-result : goal.invariant_of-result
invariant_of-result c =
    between c.self.inside.units.items _ _ _ _ _ c.self.view_is c.deref.ensures.value c.self.invariant c.requires.in_order c.requires.start c.requires.end
    (c.in_ok-units.ensures.items_if_clones_equal (λ x y e. e))
