-- What is read of a source.
use Rattle.std.specs.Prelude.{ℕ}
use Rattle.pad_top.specs.declared.input.TheConstants.{MOST_BYTES}

-- the most bytes of input that a run takes
abbrev pub most_bytes : ℕ
most_bytes = MOST_BYTES
