-- A write at a gate, and one behind it.
use Rattle.std.proofs.Common.{◌≡◌, ℕ, suc, ◌+◌, ◌<◌, List, [], ◌∷◌, ◌++◌, length, take, drop, get_or, ◌∙◌, sym, ap, arith}
use Rattle.std.proofs.lemmas.List.{append_assoc, length-append, take-append-drop, take_at, drop_at, drop_more, drop-drop}
use Rattle.disk_volume.specs.Disk.{Partly, put}

-- what stands up to a gate, behind it, and from a place behind it on
before_gate : (head : List ℕ) (byte : ℕ) (rest : List ℕ) (place : ℕ) → place ≡ length head → take place (head ++ byte ∷ rest) ≡ head
before_gate head byte rest place at = take_at head (byte ∷ rest) place (sym at)

behind_gate : (head : List ℕ) (byte : ℕ) (rest : List ℕ) (place : ℕ) → place ≡ length head → drop (place + 1) (head ++ byte ∷ rest) ≡ rest
behind_gate head byte rest place at =
    sym (drop-drop 1 place (head ++ byte ∷ rest)) ∙ ap (drop 1) (drop_at head (byte ∷ rest) place (sym at))

through_gate : (head : List ℕ) (byte : ℕ) (rest : List ℕ) (place : ℕ) → place ≡ length head → take (place + 1) (head ++ byte ∷ rest) ≡ head ++ byte ∷ []
through_gate head byte rest place at =
    ap (take (place + 1)) (sym (append_assoc head (byte ∷ []) rest))
    ∙ take_at (head ++ byte ∷ []) rest (place + 1) (length-append head (byte ∷ []) ∙ ap (λ n. n + 1) (sym at))

-- one byte written over a gate
pub put_gate : (head : List ℕ) (byte : ℕ) (rest : List ℕ) (place written : ℕ) → place ≡ length head → put (head ++ byte ∷ rest) place (written ∷ []) ≡ head ++ written ∷ rest
put_gate head byte rest place written at =
    rw (before_gate head byte rest place at, behind_gate head byte rest place at) (append_assoc head (written ∷ []) rest)

-- what a crash may leave of it
pub partly_gate : (head : List ℕ) (byte : ℕ) (rest : List ℕ) (place : ℕ) (image : List ℕ) → place ≡ length head → Partly place 1 (head ++ byte ∷ rest) image
    → (left : ℕ) × (image ≡ head ++ left ∷ rest)
partly_gate head byte rest place image at partly =
    let size : length (head ++ byte ∷ rest) ≡ length head + suc (length rest) = length-append head (byte ∷ rest) in
    let within : place < length image = omega (arith, partly.no_shorter) in
    let tail : drop (place + 1) image ≡ rest = partly.after ∙ behind_gate head byte rest place at in (
      get_or image place 0,
      sym (take-append-drop place image)
          ∙ ap (λ (l : List ℕ). l ++ drop place image) (partly.before ∙ before_gate head byte rest place at)
          ∙ ap (λ (l : List ℕ). head ++ l) (drop_more image place 0 within ∙ ap (λ (l : List ℕ). get_or image place 0 ∷ l) tail),
    )

-- bytes written behind a gate
pub put_behind : (head : List ℕ) (byte : ℕ) (rest : List ℕ) (place : ℕ) (piece : List ℕ) → place ≡ length head
    → put (head ++ byte ∷ rest) (place + 1) piece ≡ head ++ byte ∷ (piece ++ drop (length piece) rest)
put_behind head byte rest place piece at =
    let tail : drop (place + 1 + length piece) (head ++ byte ∷ rest) ≡ drop (length piece) rest =
    sym (drop-drop (length piece) (place + 1) (head ++ byte ∷ rest)) ∙ ap (drop (length piece)) (behind_gate head byte rest place at) in
    rw (through_gate head byte rest place at, tail)
    (append_assoc (head ++ byte ∷ []) piece (drop (length piece) rest) ∙ append_assoc head (byte ∷ []) (piece ++ drop (length piece) rest))

-- what a crash may leave of them
pub partly_behind : (head : List ℕ) (byte : ℕ) (rest : List ℕ) (place size : ℕ) (image : List ℕ) → place ≡ length head → Partly (place + 1) size (head ++ byte ∷ rest) image
    → (left : List ℕ) × (image ≡ head ++ byte ∷ left)
partly_behind head byte rest place size image at partly = (
  drop (place + 1) image,
  sym (take-append-drop (place + 1) image)
      ∙ ap (λ (l : List ℕ). l ++ drop (place + 1) image) (partly.before ∙ through_gate head byte rest place at)
      ∙ append_assoc head (byte ∷ []) (drop (place + 1) image),
)
