-- The first line of a text.
use Rattle.std.proofs.Common.{◌≡◌, ℕ, suc, ◌+◌, ◌<◌, ◌≤◌, Bool, true, false, not, nat_lt, cond, List, [], ◌∷◌, length, take, drop, None, Some, Option, refl, sym, ap, subst, ◌∙◌, arith, ◌==◌, if◌then◌else◌}
use Rattle.std.proofs.lemmas.Bool.Decides.{nat_tests}
use Rattle.std.specs.List.{position_or_len, position}
use Rattle.pad_lines.specs.Line.{newline, before_lines, lines_of}

-- whether a byte ends a line
abbrev is_newline : ℕ → Bool
is_newline byte = byte == newline

-- the place of the first newline, or the length where there is none
abbrev line_len : List ℕ → ℕ
line_len text = position_or_len is_newline text

-- where a text has a newline, its first line stands before that, and the other lines after
lines_of-first : (text : List ℕ) → line_len text < length text → lines_of text ≡ take (line_len text) text ∷ lines_of (drop (line_len text + 1) text)
lines_of-first [] less = absurd (omega arith)
lines_of-first (byte ∷ rest) less = go (lines_of-first rest) (byte == newline) less
  where
    go : (line_len rest < length rest → lines_of rest ≡ take (line_len rest) rest ∷ lines_of (drop (line_len rest + 1) rest))
        → (ends : Bool) → cond (not ends) (1 + line_len rest) 0 < length (byte ∷ rest)
        → (if ends then [] ∷ lines_of rest else before_lines byte (lines_of rest))
        ≡ take (cond (not ends) (1 + line_len rest) 0) (byte ∷ rest) ∷ lines_of (drop (cond (not ends) (1 + line_len rest) 0 + 1) (byte ∷ rest))
    go later true less = refl
    go later false less =
        let here : 1 + line_len rest ≡ suc (line_len rest) = omega arith in
        let behind : 1 + line_len rest + 1 ≡ suc (line_len rest + 1) = omega arith in
        let front : take (1 + line_len rest) (byte ∷ rest) ≡ byte ∷ take (line_len rest) rest = ap (λ n. take n (byte ∷ rest)) here in
        let back : drop (1 + line_len rest + 1) (byte ∷ rest) ≡ drop (line_len rest + 1) rest = ap (λ n. drop n (byte ∷ rest)) behind in
        ap (before_lines byte) (later (omega (arith, less)))
        ∙ ap (λ line. line ∷ lines_of (drop (line_len rest + 1) rest)) (sym front)
        ∙ ap (λ after. take (1 + line_len rest) (byte ∷ rest) ∷ lines_of after) (sym back)

-- a text as its only line, where it is not empty
abbrev only_line : List ℕ → List (List ℕ)
only_line [] = []
only_line (byte ∷ rest) = (byte ∷ rest) ∷ []

before_only_line : (byte : ℕ) (rest : List ℕ) → before_lines byte (only_line rest) ≡ (byte ∷ rest) ∷ []
before_only_line byte [] = refl
before_only_line byte (next ∷ rest) = refl

-- a text without a newline is its only line
lines_of-only : (text : List ℕ) → length text ≤ line_len text → lines_of text ≡ only_line text
lines_of-only [] none = refl
lines_of-only (byte ∷ rest) none = go (lines_of-only rest) (byte == newline) none
  where
    go : (length rest ≤ line_len rest → lines_of rest ≡ only_line rest) → (ends : Bool) → length (byte ∷ rest) ≤ cond (not ends) (1 + line_len rest) 0
        → (if ends then [] ∷ lines_of rest else before_lines byte (lines_of rest)) ≡ (byte ∷ rest) ∷ []
    go later true none = absurd (omega arith)
    go later false none = ap (before_lines byte) (later (omega (arith, none))) ∙ before_only_line byte rest

-- the lines of a text whose first newline stands at a place
pub lines_of-split : (text : List ℕ) (end : ℕ) → Some end ≡ position is_newline text → lines_of text ≡ take end text ∷ lines_of (drop (end + 1) text)
lines_of-split text end found = go (nat_lt (line_len text) (length text)) refl found
  where
    go : (within : Bool) → nat_lt (line_len text) (length text) ≡ within → Some end ≡ cond within (Some (line_len text)) None
        → lines_of text ≡ take end text ∷ lines_of (drop (end + 1) text)
    go true less found =
        let same : line_len text ≡ end = cc in
        subst (λ n. lines_of text ≡ take n text ∷ lines_of (drop (n + 1) text)) same (lines_of-first text (grind (arith, nat_tests)))
    go false less found = cc

-- no place
abbrev none_of : Option ℕ
none_of = None

-- the lines of a text that is not empty and has no newline
pub lines_of-whole : (text : List ℕ) → 0 < length text → none_of ≡ position is_newline text → lines_of text ≡ text ∷ []
lines_of-whole [] some none = absurd (omega arith)
lines_of-whole (byte ∷ rest) some none = go (nat_lt (line_len (byte ∷ rest)) (length (byte ∷ rest))) refl none
  where
    go : (within : Bool) → nat_lt (line_len (byte ∷ rest)) (length (byte ∷ rest)) ≡ within → none_of ≡ cond within (Some (line_len (byte ∷ rest))) None
        → lines_of (byte ∷ rest) ≡ (byte ∷ rest) ∷ []
    go true less none = cc
    go false less none = lines_of-only (byte ∷ rest) (grind (arith, nat_tests))
