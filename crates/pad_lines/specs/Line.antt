-- The lines of a text, in bytes.
use Rattle.std.specs.Prelude.{ℕ, List, [], ◌∷◌, ◌==◌, if◌then◌else◌}

-- the byte that ends a line
abbrev pub newline : ℕ
newline = 10

-- lines, with a byte more in front of the first of them
abbrev pub before_lines : ℕ → List (List ℕ) → List (List ℕ)
before_lines byte [] = (byte ∷ []) ∷ []
before_lines byte (line ∷ lines) = (byte ∷ line) ∷ lines

-- the lines of a text, without what ends them: a newline ends a line, and a last line without one counts where it is
-- not empty
abbrev pub lines_of : List ℕ → List (List ℕ)
lines_of [] = []
lines_of (byte ∷ rest) = if byte == newline then [] ∷ lines_of rest else before_lines byte (lines_of rest)
