-- A piece of a file that a read gave.
use Rattle.std.proofs.Common.{◌≡◌, ℕ, ◌+◌, ◌-◌, ◌≤◌, min, List, ◌++◌, length, take, drop, Result, Ok, Err, IfOk, ◌∙◌, sym, ap, arith}
use Rattle.std.proofs.lemmas.List.{length-take-le, length-drop, drop-take, take-take, take-append-le}

-- what stands in front of a place
pub piece_before : (F : List ℕ) (from asked end : ℕ) → from ≤ end → asked ≤ end - from → take asked (drop from F) ≡ take asked (drop from (take end F))
piece_before F from asked end within few =
    let split : end ≡ from + (end - from) = omega arith in
    sym (ap (take asked) (ap (λ n. drop from (take n F)) split ∙ drop-take from (end - from) F) ∙ take-take asked (end - from) (drop from F) few)

-- a read into a buffer of so many bytes, all of which the file has
pub piece_read : {E : Type 0} (result : Result ℕ E) (lent buf tail F : List ℕ) (from end size : ℕ) → from ≤ end → end ≤ length F
    → length lent ≡ min size (end - from) → length buf ≡ length lent
    → IfOk result (λ count. count ≤ length buf) → IfOk result (λ count. take count buf ≡ take (length lent) (drop from F))
    → IfOk result (λ count. (count ≡ min size (end - from)) × (take count (buf ++ tail) ≡ take count (drop from (take end F))))
piece_read (Ok count) lent buf tail F from end size within long is whole few bytes =
    let came : count ≡ length lent =
    sym (length-take-le count buf few) ∙ ap length bytes ∙ length-take-le (length lent) (drop from F) (omega (arith, length-drop from F)) in
    (came ∙ is, take-append-le count buf tail few ∙ bytes ∙ ap (λ n. take n (drop from F)) (sym came) ∙ piece_before F from count end within (omega arith))
piece_read (Err failed) lent buf tail F from end size within long is whole few bytes = tt
