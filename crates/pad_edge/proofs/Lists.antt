-- Lists that are written over.
use Rattle.std.proofs.Common.{◌≡◌, ℕ, ◌+◌, ◌≤◌, List, ◌++◌, length, take, sym, ap, ◌∙◌, arith, append_assoc, length-append}
use Rattle.std.proofs.lemmas.List.{length-take-le, take-take, take_at}

-- what stands in front after a piece was written over a place, where the whole is read back up to a size
pub take-written : (at count size : ℕ) (old piece after end : List ℕ) → at ≤ length old → length piece ≡ count → at + count ≤ size
    → take (at + count) (take size (take at old ++ (piece ++ after) ++ end)) ≡ take at old ++ piece
take-written at count size old piece after end within long fits =
    let front = take at old in
    let whole : length (front ++ piece) ≡ at + count = omega (arith, length-append front piece, length-take-le at old within, long) in
    take-take (at + count) size (front ++ (piece ++ after) ++ end) fits
    ∙ ap (take (at + count)) (append_assoc front (piece ++ after) end ∙ ap (λ l. front ++ l) (append_assoc piece after end) ∙ sym (append_assoc front piece (after ++ end)))
    ∙ take_at (front ++ piece) (after ++ end) (at + count) whole
