-- Elements of plain lists.
use Rattle.std.proofs.Common.{◌≡◌, ℕ, zero, suc, ◌+◌, ◌-◌, ◌<◌, ◌≤◌, ◌⊎◌, inl, inr, List, [], ◌∷◌, ◌++◌, length, map, take, drop, refl, sym, ◌∙◌, ap, arith}
use Rattle.std.specs.Prelude.{Option, Some, None, slice_get, slice_index_or, replicate, Contains}
use Rattle.std.specs.List.{range_with_len, filter_map}
use Rattle.std.specs.Option.{option_map}
use Rattle.std.proofs.lemmas.Option.{slice_get_read}
use Rattle.std.proofs.lemmas.List.{ext_get_or}
use Rattle.std.proofs.lemmas.List.FromFn.{length-map-range_with_len, get_or-map-range_with_len}
use Rattle.pad_patch.proofs.Patched.{part}

-- an element of a list
abbrev pub Has : {A : Type 0} → A → List A → Type 0
Has e [] = ⊥
Has e (x ∷ xs) = (x ≡ e) ⊎ Has e xs

pub has_left : {A : Type 0} (e : A) (xs ys : List A) → Has e xs → Has e (xs ++ ys)
has_left e [] ys has = absurd has
has_left e (x ∷ xs) ys (inl is) = inl is
has_left e (x ∷ xs) ys (inr later) = inr (has_left e xs ys later)

pub has_right : {A : Type 0} (e : A) (xs ys : List A) → Has e ys → Has e (xs ++ ys)
has_right e [] ys has = has
has_right e (x ∷ xs) ys has = inr (has_right e xs ys has)

pub has_cases : {A : Type 0} (e : A) (xs ys : List A) → Has e (xs ++ ys) → Has e xs ⊎ Has e ys
has_cases e [] ys has = inr has
has_cases e (x ∷ xs) ys (inl is) = inl (inl is)
has_cases e (x ∷ xs) ys (inr later) = elim (has_cases e xs ys later) [ inl first ↦ inl (inr first) | inr second ↦ inr second ]

pub at_has : {A : Type 0} (e : A) (xs : List A) (at : ℕ) → slice_get xs at ≡ Some e → Has e xs
at_has e [] at is = cc
at_has e (x ∷ xs) zero is = inl cc
at_has e (x ∷ xs) (suc at) is = inr (at_has e xs at is)

pub has_at : {A : Type 0} (e : A) (xs : List A) → Has e xs → (at : ℕ) × (slice_get xs at ≡ Some e)
has_at e [] has = absurd has
has_at e (x ∷ xs) (inl is) = (0, ap Some is)
has_at e (x ∷ xs) (inr later) = let found = has_at e xs later in (suc found.0, found.1)

pub contains_has : {A : Type 0} (e : A) (xs : List A) → Contains xs e → Has e xs
contains_has e xs (k, below, is) = at_has e xs k (slice_get_read xs (length xs) k e refl below (sym is))

pub has_contains : {A : Type 0} (e : A) (xs : List A) → Has e xs → Contains xs e
has_contains e [] has = absurd has
has_contains e (x ∷ xs) (inl is) = (0, omega arith, is)
has_contains e (x ∷ xs) (inr later) = let found = has_contains e xs later in (suc found.0, omega (arith, found.1), found.2)

pub has_map : {A B : Type 0} (f : A → B) (e : A) (xs : List A) → Has e xs → Has (f e) (map f xs)
has_map f e [] has = absurd has
has_map f e (x ∷ xs) (inl is) = inl (ap f is)
has_map f e (x ∷ xs) (inr later) = inr (has_map f e xs later)

pub map_has : {A B : Type 0} (f : A → B) (b : B) (xs : List A) → Has b (map f xs) → (e : A) × Has e xs × (f e ≡ b)
map_has f b [] has = absurd has
map_has f b (x ∷ xs) (inl is) = (x, inl refl, is)
map_has f b (x ∷ xs) (inr later) = let found = map_has f b xs later in (found.0, inr found.1, found.2)

pub get-map : {A B : Type 0} (f : A → B) (xs : List A) (at : ℕ) → slice_get (map f xs) at ≡ option_map f (slice_get xs at)
get-map f [] at = refl
get-map f (x ∷ xs) zero = refl
get-map f (x ∷ xs) (suc at) = get-map f xs at

pub get_below : {A : Type 0} (xs : List A) (at : ℕ) → at < length xs → (e : A) × (slice_get xs at ≡ Some e)
get_below [] at below = absurd (omega arith)
get_below (x ∷ xs) zero below = (x, refl)
get_below (x ∷ xs) (suc at) below = get_below xs at (omega arith)

pub below_get : {A : Type 0} (e : A) (xs : List A) (at : ℕ) → slice_get xs at ≡ Some e → at < length xs
below_get e [] at is = cc
below_get e (x ∷ xs) zero is = omega arith
below_get e (x ∷ xs) (suc at) is = let rest = below_get e xs at is in omega arith

-- ranges
pub get-drop : {A : Type 0} (low : ℕ) (xs : List A) (at : ℕ) → slice_get (drop low xs) at ≡ slice_get xs (low + at)
get-drop zero xs at = let same : at ≡ 0 + at = omega arith in ap (slice_get xs) same
get-drop (suc low) [] at = refl
get-drop (suc low) (x ∷ xs) at = let same : suc (low + at) ≡ suc low + at = omega arith in get-drop low xs at ∙ ap (slice_get (x ∷ xs)) same

pub get-take : {A : Type 0} (count : ℕ) (xs : List A) (at : ℕ) → at < count → slice_get (take count xs) at ≡ slice_get xs at
get-take zero xs at below = absurd (omega arith)
get-take (suc count) [] at below = refl
get-take (suc count) (x ∷ xs) zero below = refl
get-take (suc count) (x ∷ xs) (suc at) below = get-take count xs at (omega arith)

pub take_get : {A : Type 0} (e : A) (count : ℕ) (xs : List A) (at : ℕ) → slice_get (take count xs) at ≡ Some e → at < count
take_get e zero xs at is = cc
take_get e (suc count) [] at is = cc
take_get e (suc count) (x ∷ xs) zero is = omega arith
take_get e (suc count) (x ∷ xs) (suc at) is = let rest = take_get e count xs at is in omega arith

pub has_take : {A : Type 0} (e : A) (count : ℕ) (xs : List A) → Has e (take count xs) → Has e xs
has_take e zero xs has = absurd has
has_take e (suc count) [] has = absurd has
has_take e (suc count) (x ∷ xs) (inl is) = inl is
has_take e (suc count) (x ∷ xs) (inr later) = inr (has_take e count xs later)

pub has_drop : {A : Type 0} (e : A) (low : ℕ) (xs : List A) → Has e (drop low xs) → Has e xs
has_drop e zero xs has = has
has_drop e (suc low) [] has = absurd has
has_drop e (suc low) (x ∷ xs) has = inr (has_drop e low xs has)

pub has_part : {A : Type 0} (e : A) (low high place : ℕ) (xs : List A) → low ≤ place → place < high → slice_get xs place ≡ Some e → Has e (part low high xs)
has_part e low high place xs from below is =
    let there : low + (place - low) ≡ place = omega arith in
    at_has e (part low high xs) (place - low) (get-take (high - low) (drop low xs) (place - low) (omega arith) ∙ get-drop low xs (place - low) ∙ ap (slice_get xs) there ∙ is)

pub part_has : {A : Type 0} (e : A) (low high : ℕ) (xs : List A) → Has e (part low high xs) → (place : ℕ) × (low ≤ place) × (place < high) × (slice_get xs place ≡ Some e)
part_has e low high xs has =
    let found = has_at e (part low high xs) has in
    let below = take_get e (high - low) (drop low xs) found.0 found.1 in
    (low + found.0, omega arith, omega (arith, below), sym (get-drop low xs found.0) ∙ sym (get-take (high - low) (drop low xs) found.0 below) ∙ found.1)

-- numbers in order
pub get-range : (from count at : ℕ) → at < count → slice_get (range_with_len from count) at ≡ Some (from + at)
get-range from zero at below = absurd (omega arith)
get-range from (suc count) zero below = let same : from ≡ from + 0 = omega arith in ap Some same
get-range from (suc count) (suc at) below =
    let same : from + 1 + at ≡ from + suc at = omega arith in get-range (from + 1) count at (omega arith) ∙ ap Some same

pub range_get : (from count at place : ℕ) → slice_get (range_with_len from count) at ≡ Some place → (at < count) × (place ≡ from + at)
range_get from zero at place is = cc
range_get from (suc count) zero place is = let same : from ≡ place = cc in (omega arith, omega arith)
range_get from (suc count) (suc at) place is = let rest = range_get (from + 1) count at place is in (omega (arith, rest.0), omega (arith, rest.1))

-- reading a list at each of its indexes
reads_from : {A : Type 0} (xs : List A) (from : ℕ) (ys : List A) → ((at : ℕ) → slice_get ys at ≡ slice_get xs (from + at)) → map (slice_get xs) (range_with_len from (length ys)) ≡ map Some ys
reads_from xs from [] same = refl
reads_from xs from (y ∷ ys) same =
    let here : from + 0 ≡ from = omega arith in
    let next : (at : ℕ) → from + suc at ≡ from + 1 + at = λ at. omega arith in
    ap (λ o. o ∷ map (slice_get xs) (range_with_len (from + 1) (length ys))) (sym (same 0 ∙ ap (slice_get xs) here))
    ∙ ap (λ os. Some y ∷ os) (reads_from xs (from + 1) ys (λ at. same (suc at) ∙ ap (slice_get xs) (next at)))

pub reads : {A : Type 0} (xs : List A) → map (slice_get xs) (range_with_len 0 (length xs)) ≡ map Some xs
reads xs = reads_from xs 0 xs (λ at. let same : at ≡ 0 + at = omega arith in ap (slice_get xs) same)

pub map-map : {A B C : Type 0} (f : B → C) (g : A → B) (xs : List A) → map f (map g xs) ≡ map (λ x. f (g x)) xs
map-map f g [] = refl
map-map f g (x ∷ xs) = ap (λ ys. f (g x) ∷ ys) (map-map f g xs)

-- lists that stand as elements of the same options are one
pub some-injective : {A : Type 0} (xs ys : List A) → map Some xs ≡ map Some ys → xs ≡ ys
some-injective [] [] same = refl
some-injective [] (y ∷ ys) same = cc
some-injective (x ∷ xs) [] same = cc
some-injective (x ∷ xs) (y ∷ ys) same =
    let heads : x ≡ y = cc in
    let tails : map Some xs ≡ map Some ys = cc in
    ap (λ z. z ∷ xs) heads ∙ ap (λ zs. y ∷ zs) (some-injective xs ys tails)

-- what is there of a list of options
pub has_somes : {A : Type 0} (e : A) (xs : List (Option A)) → Has (Some e) xs → Has e (filter_map (λ x. x) xs)
has_somes e [] has = absurd has
has_somes e (None ∷ xs) (inl is) = cc
has_somes e (None ∷ xs) (inr later) = has_somes e xs later
has_somes e (Some x ∷ xs) (inl is) = inl cc
has_somes e (Some x ∷ xs) (inr later) = inr (has_somes e xs later)

-- numbers in order, in two parts
pub range-append : (from first second : ℕ) → range_with_len from first ++ range_with_len (from + first) second ≡ range_with_len from (first + second)
range-append from zero second =
    let here : from + 0 ≡ from = omega arith in
    let all : second ≡ 0 + second = omega arith in
    ap (λ n. range_with_len n second) here ∙ ap (range_with_len from) all
range-append from (suc first) second =
    let there : from + suc first ≡ from + 1 + first = omega arith in
    let all : suc (first + second) ≡ suc first + second = omega arith in
    ap (λ n. from ∷ (range_with_len (from + 1) first ++ range_with_len n second)) there
    ∙ ap (λ numbers. from ∷ numbers) (range-append (from + 1) first second)
    ∙ ap (range_with_len from) all

-- what is there of a list of options
abbrev pub somes_of : {A : Type 0} → List (Option A) → List A
somes_of xs = filter_map (λ x. x) xs

pub somes-append : {A : Type 0} (xs ys : List (Option A)) → somes_of (xs ++ ys) ≡ somes_of xs ++ somes_of ys
somes-append [] ys = refl
somes-append (None ∷ xs) ys = somes-append xs ys
somes-append (Some x ∷ xs) ys = ap (λ zs. x ∷ zs) (somes-append xs ys)

pub somes-map : {A B : Type 0} (f : A → B) (xs : List (Option A)) → somes_of (map (option_map f) xs) ≡ map f (somes_of xs)
somes-map f [] = refl
somes-map f (None ∷ xs) = somes-map f xs
somes-map f (Some x ∷ xs) = ap (λ ys. f x ∷ ys) (somes-map f xs)

pub somes-some : {A : Type 0} (xs : List A) → somes_of (map Some xs) ≡ xs
somes-some [] = refl
somes-some (x ∷ xs) = ap (λ ys. x ∷ ys) (somes-some xs)

pub somes-none : {A B : Type 0} (xs : List A) → somes_of {A = B} (map (λ _. None) xs) ≡ []
somes-none [] = refl
somes-none (x ∷ xs) = somes-none xs

pub map-const : {A B C : Type 0} (c : C) (xs : List A) (ys : List B) → length xs ≡ length ys → map {B = C} (λ _. c) xs ≡ map {B = C} (λ _. c) ys
map-const c [] [] same = refl
map-const c [] (y ∷ ys) same = absurd (omega arith)
map-const c (x ∷ xs) [] same = absurd (omega arith)
map-const c (x ∷ xs) (y ∷ ys) same = ap (λ zs. c ∷ zs) (map-const c xs ys (omega arith))

pub replicate-map : {A B : Type 0} (c : B) (xs : List A) → map (λ _. c) xs ≡ replicate (length xs) c
replicate-map c [] = refl
replicate-map c (x ∷ xs) = ap (λ ys. c ∷ ys) (replicate-map c xs)

-- reading a list at each of its indexes, with another element for past the end
pub read_all : {A : Type 0} (past : A) (xs : List A) → map (λ at. slice_index_or xs at past) (range_with_len 0 (length xs)) ≡ xs
read_all past xs =
    let read = λ (at : ℕ). slice_index_or xs at past in
    let size = length-map-range_with_len read 0 (length xs) in
    ext_get_or past (map read (range_with_len 0 (length xs))) xs size
    (λ i below. let within : i < length xs = omega arith in get_or-map-range_with_len read 0 (length xs) i i past within (omega arith))
