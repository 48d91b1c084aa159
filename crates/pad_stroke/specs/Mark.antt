-- Marks of inserted units.
use Rattle.std.specs.Prelude.{ℕ, List, map, Contains}
use Rattle.std.specs.List.{range_with_len}
use Rattle.pad_stroke.specs.declared.mark.Mark.{Mark}

-- no mark stands in both lists
abbrev pub NoneInBoth : List Mark → List Mark → Type 0
NoneInBoth first second = (mark : Mark) → Contains first mark → ¬ (Contains second mark)

-- the marks of so many units that one edit types
abbrev pub marks_of : ℕ → ℕ → List Mark
marks_of stroke count = map (λ index. record { stroke = stroke; index = index }) (range_with_len 0 count)
