-- The first misfit, class by class.
use Rattle.std.proofs.Common.{◌≡◌, ℕ, ◌<◌, ◌≤◌, inl, inr, List, length, refl, ap, subst, arith, Bool, true, false}
use Rattle.std.specs.Prelude.{◌≢◌, Some, None, not, nat_eq}
use Rattle.std.specs.Cmp.Lexicographic.{pointwise, same_text, other_text}
use Rattle.pad_text.specs.declared.name.Name.{Name}
use Rattle.pad_text.specs.Hash.{document_hash}
use Rattle.pad_patch.specs.declared.patch.Patch.{Patch}
use Rattle.pad_patch.specs.declared.misfit.Misfit.{Misfit}
use Rattle.pad_patch.specs.declared.misfit.Misfit.TheVariants.{Order, Range, Pair, TooLong, BeforeHash}
use Rattle.pad_patch.specs.Piece.{text_after}
use Rattle.pad_patch.specs.Misfit.{Overlaps, EndsAfter, CutsPairAt, CanApply, Fits, IsMisfit, IsToldBefore, IsFirstMisfit, IsLeast, longest_text}

not_true : (b : Bool) → true ≡ not b → false ≡ b
not_true true differ = cc
not_true false differ = refl

not_false : (b : Bool) → false ≡ not b → true ≡ b
not_false true agree = refl
not_false false agree = cc

abbrev name_of : List ℕ → Name
name_of bytes = record { 0 = bytes }

pub first_order : (patch : Patch) (text : List ℕ) (index : ℕ) → IsLeast (Overlaps patch) (Some index) → IsFirstMisfit patch text (Order index)
first_order patch text index least = record { holds = least.0; first = first }
  where
    first : (other : Misfit) → IsMisfit patch text other → ¬ (IsToldBefore other (Order index))
    first (Order earlier) is (inl lower) = absurd (omega arith)
    first (Order earlier) is (inr same) = least.1 earlier same.1 is
    first (Range earlier) is (inl lower) = absurd (omega arith)
    first (Range earlier) is (inr same) = absurd (omega arith)
    first (Pair earlier) is (inl lower) = absurd (omega arith)
    first (Pair earlier) is (inr same) = absurd (omega arith)
    first TooLong is (inl lower) = absurd (omega arith)
    first TooLong is (inr same) = absurd (omega arith)
    first BeforeHash is (inl lower) = absurd (omega arith)
    first BeforeHash is (inr same) = absurd (omega arith)

pub first_range : (patch : Patch) (text : List ℕ) (index : ℕ) → IsLeast (Overlaps patch) None → IsLeast (EndsAfter patch (length text)) (Some index) → IsFirstMisfit patch text (Range index)
first_range patch text index ordered least = record { holds = least.0; first = first }
  where
    first : (other : Misfit) → IsMisfit patch text other → ¬ (IsToldBefore other (Range index))
    first (Order earlier) is before = ordered earlier is
    first (Range earlier) is (inl lower) = absurd (omega arith)
    first (Range earlier) is (inr same) = least.1 earlier same.1 is
    first (Pair earlier) is (inl lower) = absurd (omega arith)
    first (Pair earlier) is (inr same) = absurd (omega arith)
    first TooLong is (inl lower) = absurd (omega arith)
    first TooLong is (inr same) = absurd (omega arith)
    first BeforeHash is (inl lower) = absurd (omega arith)
    first BeforeHash is (inr same) = absurd (omega arith)

pub first_pair : (patch : Patch) (text : List ℕ) (index : ℕ) → IsLeast (Overlaps patch) None → IsLeast (EndsAfter patch (length text)) None → IsLeast (CutsPairAt patch text) (Some index) → IsFirstMisfit patch text (Pair index)
first_pair patch text index ordered inside least = record { holds = least.0; first = first }
  where
    first : (other : Misfit) → IsMisfit patch text other → ¬ (IsToldBefore other (Pair index))
    first (Order earlier) is before = ordered earlier is
    first (Range earlier) is before = inside earlier is
    first (Pair earlier) is (inl lower) = absurd (omega arith)
    first (Pair earlier) is (inr same) = least.1 earlier same.1 is
    first TooLong is (inl lower) = absurd (omega arith)
    first TooLong is (inr same) = absurd (omega arith)
    first BeforeHash is (inl lower) = absurd (omega arith)
    first BeforeHash is (inr same) = absurd (omega arith)

pub first_too_long : (patch : Patch) (text : List ℕ) → CanApply patch text → longest_text < length (text_after patch text) → IsFirstMisfit patch text TooLong
first_too_long patch text can long = record { holds = long; first = first }
  where
    first : (other : Misfit) → IsMisfit patch text other → ¬ (IsToldBefore other TooLong)
    first (Order earlier) is before = can.ordered earlier is
    first (Range earlier) is before = can.inside earlier is
    first (Pair earlier) is before = can.whole earlier is
    first TooLong is (inl lower) = absurd (omega arith)
    first TooLong is (inr same) = absurd (omega arith)
    first BeforeHash is (inl lower) = absurd (omega arith)
    first BeforeHash is (inr same) = absurd (omega arith)

pub first_hash : (patch : Patch) (text : List ℕ) → CanApply patch text → length (text_after patch text) ≤ longest_text → patch.before ≢ document_hash text → IsFirstMisfit patch text BeforeHash
first_hash patch text can short other_hash = record { holds = other_hash; first = first }
  where
    first : (other : Misfit) → IsMisfit patch text other → ¬ (IsToldBefore other BeforeHash)
    first (Order earlier) is before = can.ordered earlier is
    first (Range earlier) is before = can.inside earlier is
    first (Pair earlier) is before = can.whole earlier is
    first TooLong is before = absurd (omega arith)
    first BeforeHash is (inl lower) = absurd (omega arith)
    first BeforeHash is (inr same) = absurd (omega arith)

-- a patch in which none of the first three classes occurs can be applied
pub can_apply : (patch : Patch) (text : List ℕ) (size : ℕ) → size ≡ length text
    → IsLeast (Overlaps patch) None → IsLeast (EndsAfter patch size) None → IsLeast (CutsPairAt patch text) None → CanApply patch text
can_apply patch text size same ordered inside whole = record {
  ordered = ordered;
  inside = subst (λ n. (index : ℕ) → ¬ (EndsAfter patch n index)) same inside;
  whole = whole;
}

-- a patch with a misfit does not fit, as a test tells
pub refused : (patch : Patch) (text : List ℕ) (misfit : Misfit) → IsFirstMisfit patch text misfit → (false ≡ true → Fits patch text) × (Fits patch text → false ≡ true)
unfolding Fits
refused patch text misfit is_first = (λ no. cc, λ fitting. absurd (fitting misfit is_first.holds))

-- what the test of two names tells
pub other_name : (first second : Name) → true ≡ not (pointwise nat_eq first.0 second.0) → first ≢ second
other_name first second differ same =
    other_text first.0 second.0 (not_true (pointwise nat_eq first.0 second.0) differ) (ap (λ (name : Name). name.0) same)

pub same_name : (first second : Name) → false ≡ not (pointwise nat_eq first.0 second.0) → first ≡ second
same_name first second agree =
    ap name_of (same_text first.0 second.0 (not_false (pointwise nat_eq first.0 second.0) agree))

-- where no class occurs the patch fits
pub fits : (patch : Patch) (text : List ℕ) → CanApply patch text → length (text_after patch text) ≤ longest_text → patch.before ≡ document_hash text → Fits patch text
unfolding Fits
fits patch text can short same_hash (Order index) is = can.ordered index is
fits patch text can short same_hash (Range index) is = can.inside index is
fits patch text can short same_hash (Pair index) is = can.whole index is
fits patch text can short same_hash TooLong is = absurd (omega arith)
fits patch text can short same_hash BeforeHash is = is same_hash
