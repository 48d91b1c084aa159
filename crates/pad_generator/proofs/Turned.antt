-- Lists whose blocks are turned round one after the other.
use Rattle.std.proofs.Common.{◌≡◌, ℕ, suc, zero, ◌+◌, ◌-◌, ◌*◌, ◌<◌, ◌≤◌, List, [], ◌∷◌, ◌++◌, length, take, drop, reverse, sym, ◌∙◌, ap, subst, refl, arith, append_assoc, inl, inr, min, add-one}
use Rattle.std.specs.Prelude.{Contains}
use Rattle.std.specs.List.{flat_map}
use Rattle.std.proofs.lemmas.List.{length-reverse, length-append, length-take-le, length-drop, drop-drop, drop_all, take_all, take-append-drop, take_at, drop_at, append-nil, reverse-append}
use Rattle.std.proofs.lemmas.List.Elements.{Contains-append_left, Contains-append_right, Contains-append_cases}
use Rattle.std.proofs.lemmas.Bool.{cases_lt}
use Rattle.std.proofs.lemmas.Grind.{flat_map-append}
use borrow.Rule.Slice.PartMut.{put_mid, mid_of}
use Rattle.pad_generator.specs.Blocks.{blocks, block_count}

-- all blocks together reach to the end
pub blocks_reach : (size : ℕ) → size ≤ 16 * block_count size
blocks_reach size = omega arith

module _ {A : Type 0} where
  -- the first blocks, each turned round
  abbrev pub turned : ℕ → List A → List A
  turned count xs = flat_map reverse (blocks count xs)

  -- one block more stands behind the others
  pub blocks-more : (count : ℕ) (xs : List A) → blocks (suc count) xs ≡ blocks count xs ++ take 16 (drop (16 * count) xs) ∷ []
  blocks-more zero xs = refl
  blocks-more (suc count) xs =
      let place : 16 + 16 * count ≡ 16 * suc count = omega arith in
      let later : drop (16 * count) (drop 16 xs) ≡ drop (16 * suc count) xs = drop-drop (16 * count) 16 xs ∙ ap (λ n. drop n xs) place in
      ap (λ more. take 16 xs ∷ more) (blocks-more count (drop 16 xs)) ∙ ap (λ ys. take 16 xs ∷ (blocks count (drop 16 xs) ++ take 16 ys ∷ [])) later

  pub turned-more : (count : ℕ) (xs : List A) → turned (count + 1) xs ≡ turned count xs ++ reverse (take 16 (drop (16 * count) xs))
  turned-more count xs =
      ap (λ n. turned n xs) (add-one count) ∙ ap (flat_map reverse) (blocks-more count xs) ∙ flat_map-append reverse (blocks count xs) (take 16 (drop (16 * count) xs) ∷ [])
      ∙ ap (λ ys. turned count xs ++ ys) (append-nil (reverse (take 16 (drop (16 * count) xs))))

  -- whole blocks keep their size
  pub length-turned : (count : ℕ) (xs : List A) → 16 * count ≤ length xs → length (turned count xs) ≡ 16 * count
  length-turned zero xs fits = refl
  length-turned (suc count) xs fits =
      let rest : 16 * count ≤ length (drop 16 xs) = omega (arith, length-drop 16 xs) in
      let first : length (take 16 xs) ≡ 16 = length-take-le 16 xs (omega arith) in
      omega (arith, length-append (reverse (take 16 xs)) (turned count (drop 16 xs)), length-reverse (take 16 xs), first, length-turned count (drop 16 xs) rest)

  -- as many as a block has at a place: all that is left, where that is fewer than 16
  block_of : (count : ℕ) (xs : List A) → (count ≡ min 16 (length xs)) → (take count xs ≡ take 16 xs) × (drop count xs ≡ drop 16 xs)
  block_of count xs is = elim (cases_lt (length xs) 16) [
    | inl few ↦
        let all : count ≡ length xs = omega arith in
        (take_all count xs (omega arith) ∙ sym (take_all 16 xs (omega arith)), drop_all count xs (omega arith) ∙ sym (drop_all 16 xs (omega arith)))
    | inr many ↦
        let whole : count ≡ 16 = omega arith in
        (ap (λ n. take n xs) whole, ap (λ n. drop n xs) whole)
  ]

  -- the block at a place is turned round
  pub turns_one : (count size : ℕ) (was is : List A) → 16 * count < length was → is ≡ turned count was ++ drop (16 * count) was → size ≡ min 16 (length was - 16 * count)
      → put_mid (16 * count) size is (reverse (mid_of (16 * count) size is)) ≡ turned (count + 1) was ++ drop (16 * (count + 1)) was
  turns_one count size was is within stands as_many =
      let from = 16 * count in
      let rest = drop from was in
      let begun : length (turned count was) ≡ from = length-turned count was (omega arith) in
      let front : take from is ≡ turned count was = ap (take from) stands ∙ take_at (turned count was) rest from begun in
      let back : drop from is ≡ rest = ap (drop from) stands ∙ drop_at (turned count was) rest from begun in
      let left : size ≡ min 16 (length rest) = omega (arith, as_many, length-drop from was) in
      let block = block_of size rest left in
      let here : take size (drop from is) ≡ take 16 rest = ap (take size) back ∙ block.0 in
      let end : from + 16 ≡ 16 * (count + 1) = omega arith in
      let behind : drop size (drop from is) ≡ drop (16 * (count + 1)) was = ap (drop size) back ∙ block.1 ∙ drop-drop 16 from was ∙ ap (λ n. drop n was) end in
      (λ i. front i ++ (reverse (here i) ++ behind i))
      ∙ sym (append_assoc (turned count was) (reverse (take 16 rest)) (drop (16 * (count + 1)) was))
      ∙ ap (λ ys. ys ++ drop (16 * (count + 1)) was) (sym (turned-more count was))

  -- turning blocks round keeps the size of the whole list
  pub length-all : (count : ℕ) (xs : List A) → length xs ≤ 16 * count → length (turned count xs) ≡ length xs
  length-all zero xs fits = omega arith
  length-all (suc count) xs fits =
      let rest : length (drop 16 xs) ≤ 16 * count = omega (arith, length-drop 16 xs) in
      omega (
        arith,
        length-append (reverse (take 16 xs)) (turned count (drop 16 xs)),
        length-reverse (take 16 xs),
        length-all count (drop 16 xs) rest,
        length-append (take 16 xs) (drop 16 xs),
        ap length (take-append-drop 16 xs),
      )

  contains_reversed : (xs : List A) (x : A) → Contains xs x → Contains (reverse xs) x
  contains_reversed [] x is = is
  contains_reversed (y ∷ ys) x is =
      subst (λ l. Contains l x) (sym (reverse-append (y ∷ []) ys))
      (elim (Contains-append_cases (y ∷ []) ys x is) [
        | inl first ↦ Contains-append_right (reverse ys) (y ∷ []) x first
        | inr later ↦ Contains-append_left (reverse ys) (y ∷ []) x (contains_reversed ys x later)
      ])

  reversed_contains : (xs : List A) (x : A) → Contains (reverse xs) x → Contains xs x
  reversed_contains [] x is = is
  reversed_contains (y ∷ ys) x is =
      elim (Contains-append_cases (reverse ys) (y ∷ []) x (subst (λ l. Contains l x) (reverse-append (y ∷ []) ys) is)) [
        | inl later ↦ Contains-append_right (y ∷ []) ys x (reversed_contains ys x later)
        | inr first ↦ Contains-append_left (y ∷ []) ys x first
      ]

  -- and its elements
  pub contains_turned : (count : ℕ) (xs : List A) (x : A) → length xs ≤ 16 * count → Contains xs x → Contains (turned count xs) x
  contains_turned zero xs x fits (k, below, is) = absurd (omega arith)
  contains_turned (suc count) xs x fits is =
      let rest : length (drop 16 xs) ≤ 16 * count = omega (arith, length-drop 16 xs) in
      elim (Contains-append_cases (take 16 xs) (drop 16 xs) x (subst (λ l. Contains l x) (sym (take-append-drop 16 xs)) is)) [
        | inl first ↦ Contains-append_left (reverse (take 16 xs)) (turned count (drop 16 xs)) x (contains_reversed (take 16 xs) x first)
        | inr later ↦ Contains-append_right (reverse (take 16 xs)) (turned count (drop 16 xs)) x (contains_turned count (drop 16 xs) x rest later)
      ]

  pub turned_contains : (count : ℕ) (xs : List A) (x : A) → Contains (turned count xs) x → Contains xs x
  turned_contains zero xs x (k, below, is) = absurd (omega arith)
  turned_contains (suc count) xs x is =
      subst (λ l. Contains l x) (take-append-drop 16 xs)
      (elim (Contains-append_cases (reverse (take 16 xs)) (turned count (drop 16 xs)) x is) [
        | inl first ↦ Contains-append_left (take 16 xs) (drop 16 xs) x (reversed_contains (take 16 xs) x first)
        | inr later ↦ Contains-append_right (take 16 xs) (drop 16 xs) x (turned_contains count (drop 16 xs) x later)
      ])
