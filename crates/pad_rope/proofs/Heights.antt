-- The height of a tree is bounded by its number of units, from both sides.
use Rattle.std.proofs.Common.{◌≡◌, ℕ, suc, ◌+◌, ◌*◌, ◌^◌, ◌<◌, ◌≤◌, max, inl, inr, ◌++◌, length, subst, arith, length-append}
use Rattle.std.proofs.Math.Nat.{pow-succ', pow-le-pow_right, mul-le-mul_left}
use Rattle.std.proofs.lemmas.Bool.{cases_lt}
use Rattle.pad_text.proofs.CallerLemmas.{IsText-append}
use Rattle.pad_rope.specs.declared.tree.TheConstants.{LEAF_SIZE}
use Rattle.pad_rope.specs.Inside.Shape.{Shape, IsSound, DifferByAtMost}

-- the square of a sum, of which one side has the height and the other has it but for one
squares : (a b p : ℕ) → 2 * p ≤ a * a → p ≤ b * b → 4 * p ≤ (a + b) * (a + b)
squares a b p first second = elim (cases_lt a b) [
  | inl less ↦ let cross : a * a ≤ a * b = mul-le-mul_left a (omega arith) in omega (arith, cross)
  | inr most ↦ let cross : b * b ≤ b * a = mul-le-mul_left b most in omega (arith, cross)
]

pub low-fork : (a b h k : ℕ) → DifferByAtMost 1 h k → 2 ^ h ≤ a * a → 2 ^ k ≤ b * b → 2 ^ (max h k + 1) ≤ (a + b) * (a + b)
low-fork a b h k near first second = elim (cases_lt h k) [
  | inl less ↦
      let is : k ≡ suc h = omega (arith, near.second_low) in
      let most : max h k + 1 ≡ suc (suc h) = omega arith in
      let high : 2 * 2 ^ h ≤ b * b = omega (arith, pow-succ' 2 h, subst (λ n. 2 ^ n ≤ b * b) is second) in
      rw most (omega (arith, pow-succ' 2 (suc h), pow-succ' 2 h, squares b a (2 ^ h) high first))
  | inr from ↦ elim (cases_lt k h) [
    | inl less ↦
        let is : h ≡ suc k = omega (arith, near.first_low) in
        let most : max h k + 1 ≡ suc (suc k) = omega arith in
        let high : 2 * 2 ^ k ≤ a * a = omega (arith, pow-succ' 2 k, subst (λ n. 2 ^ n ≤ a * a) is first) in
        rw most (omega (arith, pow-succ' 2 (suc k), pow-succ' 2 k, squares a b (2 ^ k) high second))
    | inr to ↦
        let is : h ≡ k = omega arith in
        let most : max h k + 1 ≡ suc k = omega arith in
        let same : 2 ^ k ≤ a * a = subst (λ n. 2 ^ n ≤ a * a) is first in
        rw most (omega (arith, pow-succ' 2 k))
  ]
]

pub wide-fork : (a b h k : ℕ) → a ≤ LEAF_SIZE * 2 ^ h → b ≤ LEAF_SIZE * 2 ^ k → a + b ≤ LEAF_SIZE * 2 ^ (max h k + 1)
wide-fork a b h k first second =
    let most : max h k + 1 ≡ suc (max h k) = omega arith in
    let left : 2 ^ h ≤ 2 ^ max h k = pow-le-pow_right (omega arith) (omega arith) in
    let right : 2 ^ k ≤ 2 ^ max h k = pow-le-pow_right (omega arith) (omega arith) in
    rw most (omega (arith, pow-succ' 2 (max h k)))

-- a height fits in a few bits
pub height_small : (shape : Shape) → IsSound shape → shape.height < 128
height_small shape sound = elim (cases_lt shape.height 128) [
  | inl less ↦ less
  | inr most ↦
      let n = length shape.units in
      elim (cases_lt 0 n) [
        | inl some ↦
            let least : 2 ^ 128 ≤ 2 ^ shape.height = pow-le-pow_right (omega arith) most in
            let bound : n ≤ 2 ^ 64 = omega (arith, sound.fits) in
            let square : n * n ≤ n * 2 ^ 64 = mul-le-mul_left n bound in
            absurd (omega (arith, sound.low some, sound.fits))
        | inr none ↦ let flat : shape.height ≡ 0 = sound.empty (omega arith) in absurd (omega arith)
      ]
]

pub sound-fork : (left right : Shape) → IsSound left → IsSound right → 0 < length left.units → 0 < length right.units
    → DifferByAtMost 1 left.height right.height → length left.units + length right.units < 2 ^ 64
    → IsSound (record { units = left.units ++ right.units; height = max left.height right.height + 1 })
sound-fork left right first second some other near fits = record {
  text = IsText-append left.units right.units first.text second.text;
  fits = rw length-append fits;
  wide = rw length-append (wide-fork _ _ left.height right.height first.wide second.wide);
  low = λ _. rw length-append (low-fork _ _ left.height right.height near (first.low some) (second.low other));
  empty = λ none. absurd (omega (arith, length-append left.units right.units));
}
