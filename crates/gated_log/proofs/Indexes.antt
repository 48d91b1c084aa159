-- An index to which the extents of payloads are added.
use Rattle.std.proofs.Common.{◌≡◌, ℕ, zero, suc, ◌+◌, ◌*◌, ◌≤◌, ◌<◌, List, [], ◌∷◌, ◌++◌, length, take, get_or, refl, ◌∙◌, ap, arith}
use Rattle.std.proofs.lemmas.List.Sums.{sum_by-cons}
use Rattle.std.proofs.Math.Seq.{take-suc}
use Rattle.std.specs.Prelude.{sum_by}
use Rattle.log_format.specs.Frames.{sizes_of, size_of}
use Rattle.gated_log.specs.declared.extent.Extent.{Extent}
use Rattle.gated_log.specs.Extents.{extents}

-- where payloads of these lengths stand
abbrev pub extents_by : (gate : ℕ) → List ℕ → List Extent
extents_by gate [] = []
extents_by gate (size ∷ sizes) = record { place = gate + 5; size = size } ∷ extents_by (gate + 5 + size) sizes

pub by_sizes : (gate : ℕ) (payloads : List (List ℕ)) → extents_by gate (sizes_of payloads) ≡ extents gate payloads
by_sizes gate [] = refl
by_sizes gate (payload ∷ payloads) = ap (λ (l : List Extent). record { place = gate + 5; size = length payload } ∷ l) (by_sizes (gate + 5 + length payload) payloads)

-- the place behind them
abbrev pub place_behind : ℕ → List ℕ → ℕ
place_behind gate [] = gate
place_behind gate (size ∷ sizes) = place_behind (gate + 5 + size) sizes

pub place_fits : (gate : ℕ) (sizes : List ℕ) (at : ℕ) → at < length sizes
    → place_behind gate (take at sizes) + (5 + get_or sizes at 0) ≤ gate + sum_by (λ (size : ℕ). 5 + size) sizes
place_fits gate [] at within = absurd (omega arith)
place_fits gate (size ∷ sizes) zero within = omega (arith, sum_by-cons (λ (size : ℕ). 5 + size) size sizes)
place_fits gate (size ∷ sizes) (suc at) within =
    omega (arith, sum_by-cons (λ (size : ℕ). 5 + size) size sizes, place_fits (gate + 5 + size) sizes at (omega arith))

-- five bytes and the payload each
pub sizes_together : (payloads : List (List ℕ)) → sum_by (λ (size : ℕ). 5 + size) (sizes_of payloads) ≡ 5 * length payloads + size_of payloads
sizes_together [] = refl
sizes_together (payload ∷ payloads) =
    omega (
      arith,
      sum_by-cons (λ (size : ℕ). 5 + size) (length payload) (sizes_of payloads),
      sum_by-cons (λ (payload : List ℕ). length payload) payload payloads,
      sizes_together payloads,
    )

pub extents_push : (gate : ℕ) (sizes : List ℕ) (size : ℕ)
    → extents_by gate (sizes ++ size ∷ []) ≡ extents_by gate sizes ++ record { place = place_behind gate sizes + 5; size = size } ∷ []
extents_push gate [] size = refl
extents_push gate (first ∷ sizes) size = ap (λ (l : List Extent). record { place = gate + 5; size = first } ∷ l) (extents_push (gate + 5 + first) sizes size)

pub place_push : (gate : ℕ) (sizes : List ℕ) (size : ℕ) → place_behind gate (sizes ++ size ∷ []) ≡ place_behind gate sizes + (5 + size)
place_push gate [] size = omega arith
place_push gate (first ∷ sizes) size = place_push (gate + 5 + first) sizes size

pub take_next : (sizes : List ℕ) (at : ℕ) → at < length sizes → take (at + 1) sizes ≡ take at sizes ++ get_or sizes at 0 ∷ []
take_next sizes at within = let next : at + 1 ≡ suc at = omega arith in ap (λ n. take n sizes) next ∙ take-suc sizes at 0 within
