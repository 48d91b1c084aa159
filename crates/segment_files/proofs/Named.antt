-- The names of segments differ.
use Rattle.std.proofs.Common.{◌≡◌, ◌∙◌, ℕ, zero, suc, ◌+◌, ◌<◌, ◌^◌, List, [], ◌∷◌, ◌++◌, length, codes, decimal, refl, sym, ap, arith, length-append}
use Rattle.std.proofs.lemmas.List.{append_cancel_left}
use Rattle.std.proofs.lemmas.Fmt.{decimal_injective}
use Rattle.segment_files.specs.Names.{segment_name}

-- a further segment's name is longer than the log's
longer : (name digits : List ℕ) → name ≡ name ++ (codes "." ++ digits) → ⊥
longer name digits same = omega (arith, ap (λ (l : List ℕ). length l) same, length-append name (codes "." ++ digits))

same_digits : (name one other : List ℕ) → name ++ (codes "." ++ one) ≡ name ++ (codes "." ++ other) → one ≡ other
same_digits name one other same = append_cancel_left (codes ".") one other (append_cancel_left name (codes "." ++ one) (codes "." ++ other) same)

pub differ : (name : List ℕ) (one other : ℕ) → one < 2 ^ 64 → other < 2 ^ 64 → segment_name name one ≡ segment_name name other → one ≡ other
differ name zero zero below under same = refl
differ name zero (suc other) below under same = absurd (longer name (decimal (suc other)) same)
differ name (suc one) zero below under same = absurd (longer name (decimal (suc one)) (sym same))
differ name (suc one) (suc other) below under same = decimal_injective (suc one) (suc other) below under (same_digits name (decimal (suc one)) (decimal (suc other)) same)
