-- A text is cut at its first space in one way.
use Rattle.std.proofs.Common.{◌≡◌, ◌≢◌, ℕ, Bool, true, false, not, ◌&&◌, ◌==◌, List, [], ◌∷◌, ◌++◌, refl, sym, ap, ◌∙◌, arith, get_or, ◌<◌, length, suc, zero}
use Rattle.std.proofs.lemmas.Bool.{and_parts, eqb-true}
use Rattle.std.proofs.lemmas.Bool.Decides.{nat_tests}
use Rattle.pad_script.specs.Parts.{space}
use Rattle.pad_script.specs.Inside.Words.{has_no_space}

-- the first byte of a word is no space, and the others are none
first_is_none : (byte : ℕ) (rest : List ℕ) → has_no_space (byte ∷ rest) ≡ true → byte ≢ space
first_is_none byte rest none same = let parts = and_parts (not (byte == space)) (has_no_space rest) none in grind (arith, nat_tests)

others_are_none : (byte : ℕ) (rest : List ℕ) → has_no_space (byte ∷ rest) ≡ true → has_no_space rest ≡ true
others_are_none byte rest none = (and_parts (not (byte == space)) (has_no_space rest) none).1

pub none_at : (word : List ℕ) → has_no_space word ≡ true → (i : ℕ) → i < length word → get_or word i 0 ≢ space
none_at [] none i within = absurd (omega arith)
none_at (byte ∷ rest) none zero within = first_is_none byte rest none
none_at (byte ∷ rest) none (suc i) within = none_at rest (others_are_none byte rest none) i (omega arith)

-- two words that stand before a space are one, and so is what stands behind it
pub cut_word : (first second rest other : List ℕ) → has_no_space first ≡ true → has_no_space second ≡ true → first ++ space ∷ rest ≡ second ++ space ∷ other → first ≡ second
cut_word [] [] rest other none there same = refl
cut_word [] (b ∷ second) rest other none there same = let first : b ≡ space = cc in absurd (first_is_none b second there first)
cut_word (a ∷ first) [] rest other none there same = let second : a ≡ space = cc in absurd (first_is_none a first none second)
cut_word (a ∷ first) (b ∷ second) rest other none there same =
    let byte : a ≡ b = cc in
    let tail : first ++ space ∷ rest ≡ second ++ space ∷ other = cc in
    let word : first ≡ second = cut_word first second rest other (others_are_none a first none) (others_are_none b second there) tail in
    cc

pub cut_rest : (first second rest other : List ℕ) → has_no_space first ≡ true → has_no_space second ≡ true → first ++ space ∷ rest ≡ second ++ space ∷ other → rest ≡ other
cut_rest [] [] rest other none there same = cc
cut_rest [] (b ∷ second) rest other none there same = let first : b ≡ space = cc in absurd (first_is_none b second there first)
cut_rest (a ∷ first) [] rest other none there same = let second : a ≡ space = cc in absurd (first_is_none a first none second)
cut_rest (a ∷ first) (b ∷ second) rest other none there same =
    let tail : first ++ space ∷ rest ≡ second ++ space ∷ other = cc in
    cut_rest first second rest other (others_are_none a first none) (others_are_none b second there) tail

-- a word has no space
pub no_cut : (word front rest : List ℕ) → has_no_space word ≡ true → word ≢ front ++ space ∷ rest
no_cut [] [] rest none same = absurd (cc)
no_cut [] (b ∷ front) rest none same = absurd (cc)
no_cut (a ∷ word) [] rest none same = let first : a ≡ space = cc in absurd (first_is_none a word none first)
no_cut (a ∷ word) (b ∷ front) rest none same = let tail : word ≡ front ++ space ∷ rest = cc in no_cut word front rest (others_are_none a word none) tail
