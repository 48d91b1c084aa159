-- What a rope stands for.
use Rattle.std.specs.Prelude.{ℕ, List}
use Rattle.pad_rope.specs.declared.rope.Rope.{Rope}

-- the units of its text
abbrev pub rope_units : Rope → List ℕ
rope_units rope = rope.kept.units
