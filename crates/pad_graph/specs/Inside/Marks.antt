-- How names are marked, and how many of them are kept.
use Rattle.std.specs.Prelude.{◌≡◌, ⊤, ℕ}
use Rattle.pad_graph.specs.declared.node.Mark.{Mark}
use Rattle.pad_graph.specs.declared.node.Mark.TheVariants as mark
use Rattle.pad_graph.specs.declared.standing.Standing.{Standing}
use Rattle.pad_graph.specs.declared.standing.Standing.TheVariants.{Unknown, Waiting, Linked, Gone}

-- the parent stands so, and what is linked on it is marked so
abbrev pub IsUnder : Mark → ℕ → Standing → Type 0
IsUnder mark.Waiting height standing = ⊥
IsUnder mark.Linked height standing = standing ≡ Linked height
IsUnder mark.Gone height standing = standing ≡ Gone height

-- how many of these are kept
abbrev pub kept_by : Mark → ℕ → ℕ
kept_by mark.Waiting many = 0
kept_by mark.Linked many = many
kept_by mark.Gone many = 0

-- it is not linked
abbrev pub IsApart : Standing → Type 0
IsApart Unknown = ⊤
IsApart Waiting = ⊤
IsApart (Linked height) = ⊥
IsApart (Gone height) = ⊥
