-- Each unit of a text is removed by a patch or kept, and a kept one keeps its element in each list that the patch copies.
use Rattle.std.proofs.Common.{◌≡◌, ℕ, zero, suc, ◌+◌, ◌-◌, ◌<◌, ◌≤◌, ◌⊎◌, inl, inr, List, [], ◌∷◌, ◌++◌, length, map, take, drop, replicate, refl, sym, ◌∙◌, ap, subst, arith}
use Rattle.std.specs.Prelude.{Option, Some, None, slice_get}
use Rattle.std.specs.List.{range_with_len}
use Rattle.std.specs.Option.{option_map}
use Rattle.std.proofs.lemmas.Bool.{cases_lt}
use Rattle.std.proofs.lemmas.List.{map-append, append-nil, take-append-drop, length-map, length-append, length-drop, length-take-le, length-replicate}
use Rattle.std.proofs.lemmas.List.FromFn.{length-map-range_with_len}
use Rattle.pad_patch.specs.declared.operation.Operation.{Operation}
use Rattle.pad_patch.specs.declared.patch.Patch.{Patch}
use Rattle.pad_patch.specs.Piece.{end_of, pieces, pieces_from, patched_pieces, patched, insertions, inserted, length_after, text_after}
use Rattle.pad_patch.specs.Removed.{Removes, IsKeptFrom, old_places, removed_by}
use Rattle.pad_patch.specs.Inverse.{inverse}
use Rattle.pad_patch.specs.Misfit.{Overlaps, EndsAfter}
use Rattle.pad_patch.proofs.Laid.{IsLaid}
use Rattle.pad_patch.proofs.Copies.{length-text_after}
use Rattle.pad_patch.proofs.Patched.{part, map-take, map-drop, map-patched, patched-next}
use Rattle.pad_patch.proofs.Undone.{patched-inverse, inserted-inverse_operations}
use Rattle.pad_patch.proofs.Has.{Has, has_left, has_right, has_cases, at_has, has_at, get-map, below_get, has_take, has_drop, has_part, part_has, get-range, range_get, reads, map-map, get-drop, get-take, map-const, somes_of, somes-append, somes-some, somes-none}

-- one of the operations removes the unit at a place
abbrev pub RemovedIn : List Operation → ℕ → Type 0
RemovedIn [] place = ⊥
RemovedIn (operation ∷ operations) place = ((operation.offset ≤ place) × (place < end_of operation)) ⊎ RemovedIn operations place

pub removes_of : (operations : List Operation) (place : ℕ) → RemovedIn operations place
    → (index : ℕ) × (operation : Operation) × (slice_get operations index ≡ Some operation) × (operation.offset ≤ place) × (place < end_of operation)
removes_of [] place removed = absurd removed
removes_of (operation ∷ operations) place (inl here) = (0, operation, refl, here.0, here.1)
removes_of (operation ∷ operations) place (inr later) = let found = removes_of operations place later in (suc found.0, found.1, found.2, found.3, found.4)

pub of_removes : (operations : List Operation) (place index : ℕ) (operation : Operation) → slice_get operations index ≡ Some operation → operation.offset ≤ place → place < end_of operation
    → RemovedIn operations place
of_removes [] place index operation is from below = cc
of_removes (first ∷ operations) place zero operation is from below =
    let same : first ≡ operation = cc in
    inl (subst (λ (o : Operation). (o.offset ≤ place) × (place < end_of o)) (sym same) (from, below))
of_removes (first ∷ operations) place (suc index) operation is from below = inr (of_removes operations place index operation is from below)

-- an element of a list that is copied from a place on: its unit is removed, or it is copied
stands : {A : Type 0} (e : A) (old new : List A) (low size place : ℕ) (operations : List Operation) → IsLaid low size operations → low ≤ place → place < size → slice_get old place ≡ Some e
    → RemovedIn operations place ⊎ Has e (patched_pieces old new (pieces_from low size operations))
stands e old new low size place [] laid_out from below is = inr (has_left e (part low size old) [] (has_part e low size place old from below is))
stands e old new low size place (operation ∷ operations) (starts, inside, rest) from below is =
    let kept = part low operation.offset old in
    let news = take (length operation.insert) new in
    let left = drop (length operation.insert) new in
    let later = patched_pieces old left (pieces_from (end_of operation) size operations) in
    elim (cases_lt place operation.offset) [
      | inl early ↦ inr (has_left e kept (news ++ later) (has_part e low operation.offset place old from early is))
      | inr start ↦ elim (cases_lt place (end_of operation)) [
        | inl within ↦ inl (inl (start, within))
        | inr past ↦ elim (stands e old left (end_of operation) size place operations rest past below is) [
          | inl removed ↦ inl (inr removed)
          | inr has ↦ inr (has_right e kept (news ++ later) (has_right e news later has))
        ]
      ]
    ]

pub removed_or_kept : (patch : Patch) (size place : ℕ) → IsLaid 0 size patch.ops → place < size → Removes patch place ⊎ ((at : ℕ) × IsKeptFrom patch size place at)
removed_or_kept patch size place laid_out below =
    let old : List (Option ℕ) = map Some (range_with_len 0 size) in
    let new : List (Option ℕ) = replicate (length (inserted patch)) None in
    let long = length-map-range_with_len {X = Option ℕ} Some 0 size in
    let is : slice_get old place ≡ Some (Some place) = get-map Some (range_with_len 0 size) place ∙ ap (option_map Some) (get-range 0 size place below) ∙ ap (λ n. Some (Some n)) (omega arith) in
    elim (stands (Some place) old new 0 size place patch.ops laid_out (omega arith) below is) [
      | inl removed ↦ inl (removes_of patch.ops place removed)
      | inr has ↦
          inr (has_at (Some place) (patched patch new old) (subst (λ n. Has (Some place) (patched_pieces old new (pieces patch n))) (sym long) has))
    ]

-- what later operations remove stands where they start or after it
removed_from : (low size place : ℕ) (operations : List Operation) → IsLaid low size operations → RemovedIn operations place → low ≤ place
removed_from low size place [] laid_out removed = absurd removed
removed_from low size place (operation ∷ operations) (starts, inside, rest) (inl here) = omega (arith, here.0)
removed_from low size place (operation ∷ operations) (starts, inside, rest) (inr later) =
    let past = removed_from (end_of operation) size place operations rest later in omega arith

-- an element that stands at one place of the list alone, and is no new one, is copied where that unit is kept alone
stayed : {A : Type 0} (e : A) (place : ℕ) (old new : List A) (low size : ℕ) (operations : List Operation) → ((other : ℕ) → slice_get old other ≡ Some e → other ≡ place) → (Has e new → ⊥)
    → IsLaid low size operations → Has e (patched_pieces old new (pieces_from low size operations)) → (low ≤ place) × (RemovedIn operations place → ⊥)
stayed e place old new low size [] only none laid_out has = elim (has_cases e (part low size old) [] has) [
  | inl there ↦
      let found = part_has e low size old there in
      let same = only found.0 found.3 in
      (omega (arith, found.1), λ removed. removed)
  | inr nowhere ↦ absurd nowhere
]
stayed e place old new low size (operation ∷ operations) only none (starts, inside, rest) has =
    let kept = part low operation.offset old in
    let news = take (length operation.insert) new in
    let left = drop (length operation.insert) new in
    let later = patched_pieces old left (pieces_from (end_of operation) size operations) in
    elim (has_cases e kept (news ++ later) has) [
      | inl there ↦
          let found = part_has e low operation.offset old there in
          let same = only found.0 found.3 in (
            omega (arith, found.1),
            λ removed. elim removed [
              | inl here ↦ omega (arith, here.0, found.2, same)
              | inr behind ↦ let past = removed_from (end_of operation) size place operations rest behind in omega (arith, past, found.2, same)
            ],
          )
      | inr more ↦ elim (has_cases e news later more) [
        | inl new_one ↦ absurd (none (has_take e (length operation.insert) new new_one))
        | inr there ↦
            let found = stayed e place old left (end_of operation) size operations only (λ has_left_over. none (has_drop e (length operation.insert) new has_left_over)) rest there in
            let past = found.0 in
            (omega (arith, past), λ removed. elim removed [ inl here ↦ omega (arith, past, here.1) | inr behind ↦ found.1 behind ])
      ]
    ]

no_some : (place count : ℕ) → Has (Some place) (replicate {A = Option ℕ} count None) → ⊥
no_some place zero has = has
no_some place (suc count) (inl is) = cc
no_some place (suc count) (inr later) = no_some place count later

pub kept_not_removed : (patch : Patch) (size place at : ℕ) → IsLaid 0 size patch.ops → IsKeptFrom patch size place at → Removes patch place → ⊥
kept_not_removed patch size place at laid_out kept (index, operation, is, from, below) =
    let old : List (Option ℕ) = map Some (range_with_len 0 size) in
    let new : List (Option ℕ) = replicate (length (inserted patch)) None in
    let long = length-map-range_with_len {X = Option ℕ} Some 0 size in
    let has = subst (λ n. Has (Some place) (patched_pieces old new (pieces patch n))) long (at_has (Some place) (patched patch new old) at kept) in
    (stayed (Some place) place old new 0 size patch.ops (λ other there. only_there other (range_with_len 0 size) (λ k n is_n. (range_get 0 size k n is_n).1) there)
    (no_some place (length (inserted patch))) laid_out has).1
    (of_removes patch.ops place index operation is from below)
  where
    number : (o : Option ℕ) (p : ℕ) → option_map Some o ≡ Some (Some p) → o ≡ Some p
    number None p same = cc
    number (Some n) p same = cc

    only_there : (other : ℕ) (ns : List ℕ) → ((k n : ℕ) → slice_get ns k ≡ Some n → n ≡ 0 + k) → slice_get (map Some ns) other ≡ Some (Some place) → other ≡ place
    only_there other ns counts there =
        let same = counts other place (number (slice_get ns other) place (sym (get-map Some ns other) ∙ there)) in
        omega (arith, same)

-- where a unit of a copy comes from: from a place of the text, or it is one of the new ones
abbrev pub Drawn : Type 0
Drawn = ℕ ⊎ ℕ

abbrev pub drawn : Patch → ℕ → List Drawn
drawn patch size = patched patch (map inr (range_with_len 0 (length (inserted patch)))) (map inl (range_with_len 0 size))

abbrev pub read_drawn : {A : Type 0} → List A → List A → Drawn → Option A
read_drawn new old (inl place) = slice_get old place
read_drawn new old (inr index) = slice_get new index

-- a copied list, read off where its units come from
pub patched-drawn : {A : Type 0} (patch : Patch) (new old : List A) → length new ≡ length (inserted patch) → map Some (patched patch new old) ≡ map (read_drawn new old) (drawn patch (length old))
patched-drawn patch new old counted =
    let count = length (inserted patch) in
    let read = read_drawn new old in
    map-patched Some patch new old
    ∙ ap (λ xs. patched patch (map Some new) xs) (sym (map-map read inl (range_with_len 0 (length old)) ∙ reads old))
    ∙ ap (λ xs. patched patch xs (map read (map inl (range_with_len 0 (length old)))))
    (sym (map-map read inr (range_with_len 0 count) ∙ ap (λ n. map (slice_get new) (range_with_len 0 n)) (sym counted) ∙ reads new))
    ∙ sym (map-patched read patch (map inr (range_with_len 0 count)) (map inl (range_with_len 0 (length old))))

abbrev old_of : Drawn → Option ℕ
old_of (inl place) = Some place
old_of (inr index) = None

nones : (from count : ℕ) → map old_of (map inr (range_with_len from count)) ≡ replicate count None
nones from zero = refl
nones from (suc count) = ap (λ xs. None ∷ xs) (nones (from + 1) count)

old_places-drawn : (patch : Patch) (size : ℕ) → map old_of (drawn patch size) ≡ old_places patch size
old_places-drawn patch size =
    map-patched old_of patch (map inr (range_with_len 0 (length (inserted patch)))) (map inl (range_with_len 0 size))
    ∙ ap (λ xs. patched patch xs (map old_of (map inl (range_with_len 0 size)))) (nones 0 (length (inserted patch)))
    ∙ ap (patched patch (replicate (length (inserted patch)) None)) (map-map old_of inl (range_with_len 0 size))

drawn_there : (d : Option Drawn) (place : ℕ) → option_map old_of d ≡ Some (Some place) → d ≡ Some (inl place)
drawn_there None place is = cc
drawn_there (Some (inl other)) place is = let same : other ≡ place = cc in ap (λ n. Some (inl n)) same
drawn_there (Some (inr index)) place is = let never : None ≡ Some place = cc in cc

there_some : {A : Type 0} (o : Option A) (e : Option A) (x : A) → option_map Some o ≡ Some e → e ≡ Some x → o ≡ Some x
there_some None e x is same = cc
there_some (Some y) e x is same = cc

-- a kept unit keeps its element
pub kept_element : {A : Type 0} (patch : Patch) (new old : List A) (place at : ℕ) (e : A) → length new ≡ length (inserted patch) → IsKeptFrom patch (length old) place at → slice_get old place ≡ Some e
    → slice_get (patched patch new old) at ≡ Some e
kept_element patch new old place at e counted kept is =
    let size = length old in
    let from = drawn_there (slice_get (drawn patch size) at) place (sym (get-map old_of (drawn patch size) at) ∙ ap (λ xs. slice_get xs at) (old_places-drawn patch size) ∙ kept) in
    there_some (slice_get (patched patch new old) at) (slice_get old place) e
    (sym (get-map Some (patched patch new old) at) ∙ ap (λ xs. slice_get xs at) (patched-drawn patch new old counted) ∙ get-map (read_drawn new old) (drawn patch size) at ∙ ap (option_map (read_drawn new old)) from)
    is

some_of : {A : Type 0} (o : Option A) (x : A) → Some o ≡ Some (Some x) → o ≡ Some x
some_of o x same = cc

-- and what stands at its place in the copy is that element
pub element_kept : {A : Type 0} (patch : Patch) (new old : List A) (place at : ℕ) (e : A) → length new ≡ length (inserted patch) → IsKeptFrom patch (length old) place at → slice_get (patched patch new old) at ≡ Some e
    → slice_get old place ≡ Some e
element_kept patch new old place at e counted kept is =
    let size = length old in
    let from = drawn_there (slice_get (drawn patch size) at) place (sym (get-map old_of (drawn patch size) at) ∙ ap (λ xs. slice_get xs at) (old_places-drawn patch size) ∙ kept) in
    some_of (slice_get old place) e
    (sym (ap (option_map (read_drawn new old)) from) ∙ sym (get-map (read_drawn new old) (drawn patch size) at) ∙ sym (ap (λ xs. slice_get xs at) (patched-drawn patch new old counted))
    ∙ get-map Some (patched patch new old) at ∙ ap (option_map Some) is)

-- each element of the copy is a new one or that of a kept unit
pub kept_or_new : {A : Type 0} (patch : Patch) (new old : List A) (at : ℕ) (e : A) → length new ≡ length (inserted patch) → slice_get (patched patch new old) at ≡ Some e
    → ((place : ℕ) × IsKeptFrom patch (length old) place at × (slice_get old place ≡ Some e)) ⊎ ((index : ℕ) × (slice_get new index ≡ Some e))
kept_or_new patch new old at e counted is =
    by_source (slice_get (drawn patch (length old)) at) refl
    (sym (get-map (read_drawn new old) (drawn patch (length old)) at) ∙ sym (ap (λ xs. slice_get xs at) (patched-drawn patch new old counted)) ∙ get-map Some (patched patch new old) at ∙ ap (option_map Some) is)
  where
    by_source : (d : Option Drawn) → slice_get (drawn patch (length old)) at ≡ d → option_map (read_drawn new old) d ≡ Some (Some e)
        → ((place : ℕ) × IsKeptFrom patch (length old) place at × (slice_get old place ≡ Some e)) ⊎ ((index : ℕ) × (slice_get new index ≡ Some e))
    by_source None there read = cc
    by_source (Some (inl place)) there read =
        inl (place, sym (ap (λ xs. slice_get xs at) (old_places-drawn patch (length old))) ∙ get-map old_of (drawn patch (length old)) at ∙ ap (option_map old_of) there, cc)
    by_source (Some (inr index)) there read = inr (index, cc)

-- each new element is copied
new_stands : {A : Type 0} (e : A) (old new : List A) (low size index : ℕ) (operations : List Operation) → index < length (insertions operations) → slice_get new index ≡ Some e
    → Has e (patched_pieces old new (pieces_from low size operations))
new_stands e old new low size index [] below is = absurd (omega arith)
new_stands e old new low size index (operation ∷ operations) below is =
    let count = length operation.insert in
    let kept = part low operation.offset old in
    let news = take count new in
    let left = drop count new in
    let later = patched_pieces old left (pieces_from (end_of operation) size operations) in
    elim (cases_lt index count) [
      | inl early ↦ has_right e kept (news ++ later) (has_left e news later (at_has e news index (get-take count new index early ∙ is)))
      | inr late ↦
          let there : count + (index - count) ≡ index = omega arith in
          has_right e kept (news ++ later) (has_right e news later
          (new_stands e old left (end_of operation) size (index - count) operations (omega (arith, length-append operation.insert (insertions operations)))
          (get-drop count new (index - count) ∙ ap (slice_get new) there ∙ is)))
    ]

-- a place of the copy at which a new unit stands
pub new_drawn : (patch : Patch) (size index : ℕ) → index < length (inserted patch) → (at : ℕ) × (slice_get (drawn patch size) at ≡ Some (inr index))
new_drawn patch size index below =
    let old : List Drawn = map inl (range_with_len 0 size) in
    let new : List Drawn = map inr (range_with_len 0 (length (inserted patch))) in
    has_at (inr index) (drawn patch size)
    (new_stands (inr index) old new 0 (length old) index patch.ops below
    (get-map inr (range_with_len 0 (length (inserted patch))) index ∙ ap (option_map inr) (get-range 0 (length (inserted patch)) index below) ∙ ap (λ n. Some (inr n)) (omega arith)))

-- the length of a copied list hangs on the lengths of both lists alone
pub same_length : {A B : Type 0} (patch : Patch) (new old : List A) (other_new other_old : List B) → length new ≡ length other_new → length old ≡ length other_old
    → length (patched patch new old) ≡ length (patched patch other_new other_old)
same_length patch new old other_new other_old news olds =
    sym (length-map {B = ℕ} (patched patch new old) (λ _. 0))
    ∙ ap length (map-patched (λ _. 0) patch new old
    ∙ ap (λ xs. patched patch xs (map (λ _. 0) old)) (map-const 0 new other_new news)
    ∙ ap (patched patch (map (λ _. 0) other_new)) (map-const 0 old other_old olds)
    ∙ sym (map-patched (λ _. 0) patch other_new other_old))
    ∙ length-map {B = ℕ} (patched patch other_new other_old) (λ _. 0)

pub length-patched : {A : Type 0} (patch : Patch) (new old : List A) → length new ≡ length (inserted patch) → ((index : ℕ) → ¬ (EndsAfter patch (length old) index))
    → length (patched patch new old) ≡ length_after patch (length old)
unfolding text_after
length-patched patch new old counted inside =
    let text : List ℕ = map (λ _. 0) old in
    let long : length text ≡ length old = length-map old (λ _. 0) in
    same_length patch new old (inserted patch) text counted (sym long)
    ∙ length-text_after patch text (subst (λ n. (index : ℕ) → ¬ (EndsAfter patch n index)) (sym long) inside)
    ∙ ap (length_after patch) long

-- what operations remove of a list
map-removed_by : {A B : Type 0} (f : A → B) (operations : List Operation) (old : List A) → map f (removed_by operations old) ≡ removed_by operations (map f old)
map-removed_by f [] old = refl
map-removed_by f (operation ∷ operations) old =
    let out = part operation.offset (end_of operation) old in
    map-append f out (removed_by operations old)
    ∙ ap (λ xs. xs ++ map f (removed_by operations old)) (map-take f (end_of operation - operation.offset) (drop operation.offset old) ∙ ap (take (end_of operation - operation.offset)) (map-drop f operation.offset old))
    ∙ ap (λ xs. part operation.offset (end_of operation) (map f old) ++ xs) (map-removed_by f operations old)

length-removed_by : {A B : Type 0} (operations : List Operation) (xs : List A) (ys : List B) → length xs ≡ length ys → length (removed_by operations xs) ≡ length (removed_by operations ys)
length-removed_by operations xs ys same =
    sym (length-map {B = ℕ} (removed_by operations xs) (λ _. 0))
    ∙ ap length (map-removed_by (λ _. 0) operations xs ∙ ap (removed_by operations) (map-const 0 xs ys same) ∙ sym (map-removed_by (λ _. 0) operations ys))
    ∙ length-map {B = ℕ} (removed_by operations ys) (λ _. 0)

-- a unit that the inverse keeps is one that the patch kept, turned round
pub kept_by_inverse : (patch : Patch) (text : List ℕ) (place at : ℕ) → ((index : ℕ) → ¬ (Overlaps patch index)) → ((index : ℕ) → ¬ (EndsAfter patch (length text) index))
    → IsKeptFrom (inverse patch text) (length (text_after patch text)) at place → IsKeptFrom patch (length text) place at
unfolding text_after inverse
kept_by_inverse patch text place at ordered inside kept =
    let size = length text in
    let undo = inverse patch text in
    let old : List (Option ℕ) = map Some (range_with_len 0 size) in
    let new : List (Option ℕ) = replicate (length (inserted patch)) None in
    let copy = patched patch new old in
    let back = removed_by patch.ops old in
    let long : size ≡ length old = sym (length-map-range_with_len {X = Option ℕ} Some 0 size) in
    let counted : length new ≡ length (inserted patch) = length-replicate (length (inserted patch)) None in
    let whole = patched-inverse patch text new old ordered inside long counted in
    let after : length copy ≡ length (text_after patch text) = same_length patch new old (inserted patch) text counted (sym long) in
    let backs : length back ≡ length (inserted undo) = length-removed_by patch.ops old text (sym long) ∙ ap length (inserted-inverse_operations 0 0 text patch.ops) in
    let within : place < size =
    let nones : List (Option ℕ) = replicate (length (inserted undo)) None in
    let places : List (Option ℕ) = map Some (range_with_len 0 (length (text_after patch text))) in
    omega (
      arith,
      below_get (Some at) (old_places undo (length (text_after patch text))) place kept,
      same_length undo nones places back copy (length-replicate (length (inserted undo)) None ∙ sym backs) (length-map-range_with_len {X = Option ℕ} Some 0 (length (text_after patch text)) ∙ sym after),
      ap length whole,
      long,
    ) in
    let is : slice_get old place ≡ Some (Some place) = get-map Some (range_with_len 0 size) place ∙ ap (option_map Some) (get-range 0 size place within) ∙ ap (λ n. Some (Some n)) (omega arith) in
    element_kept undo back copy at place (Some place) backs
    (subst (λ n. IsKeptFrom undo n at place) (sym after) kept) (ap (λ xs. slice_get xs place) whole ∙ is)

-- the new elements stand in the copy in their order
somes_pieces : {A B : Type 0} (news : List A) (zs : List B) (place size : ℕ) (operations : List Operation) → length news ≡ length (insertions operations)
    → somes_of (patched_pieces (map (λ _. None) zs) (map Some news) (pieces_from place size operations)) ≡ news
somes_pieces {A = A} news zs place size [] counted =
    let old : List (Option A) = map (λ _. None) zs in
    ap somes_of (append-nil (part place size old))
    ∙ ap somes_of (ap (take (size - place)) (sym (map-drop (λ _. None) place zs)) ∙ sym (map-take (λ _. None) (size - place) (drop place zs)))
    ∙ somes-none (take (size - place) (drop place zs))
    ∙ sym (nil_of news counted)
  where
    nil_of : (xs : List A) → length xs ≡ 0 → xs ≡ []
    nil_of [] none = refl
    nil_of (x ∷ xs) none = absurd (omega arith)
somes_pieces {A = A} news zs place size (operation ∷ operations) counted =
    let old : List (Option A) = map (λ _. None) zs in
    let count = length operation.insert in
    let kept = part place operation.offset old in
    let first = take count news in
    let left = drop count news in
    let later = patched_pieces old (map Some left) (pieces_from (end_of operation) size operations) in
    let within = length-append operation.insert (insertions operations) in
    ap (λ xs. somes_of (patched_pieces old xs (pieces_from place size (operation ∷ operations)))) (ap (map Some) (sym (take-append-drop count news)) ∙ map-append Some first left)
    ∙ ap somes_of (patched-next old (map Some first) (map Some left) place size operation operations (length-map first Some ∙ length-take-le count news (omega (arith, counted, within))))
    ∙ somes-append kept (map Some first ++ later)
    ∙ ap (λ xs. xs ++ somes_of (map Some first ++ later))
    (ap somes_of (ap (take (operation.offset - place)) (sym (map-drop (λ _. None) place zs)) ∙ sym (map-take (λ _. None) (operation.offset - place) (drop place zs)))
    ∙ somes-none (take (operation.offset - place) (drop place zs)))
    ∙ somes-append (map Some first) later
    ∙ ap (λ xs. xs ++ somes_of later) (somes-some first)
    ∙ ap (λ xs. first ++ xs) (somes_pieces left zs (end_of operation) size operations (omega (arith, length-drop count news, counted, within)))
    ∙ take-append-drop count news

pub somes-patched : {A B : Type 0} (patch : Patch) (news : List A) (zs : List B) → length news ≡ length (inserted patch) → somes_of (patched patch (map Some news) (map (λ _. None) zs)) ≡ news
somes-patched {A = A} patch news zs counted = somes_pieces news zs 0 (length (map {B = Option A} (λ _. None) zs)) patch.ops counted

-- what a patch inserts is part of the text after it
new_pieces : {A : Type 0} (old new : List A) (place size : ℕ) (operations : List Operation) → length new ≡ length (insertions operations)
    → length new ≤ length (patched_pieces old new (pieces_from place size operations))
new_pieces old new place size [] counted = omega (arith, counted)
new_pieces old new place size (operation ∷ operations) counted =
    let count = length operation.insert in
    let kept = part place operation.offset old in
    let news = take count new in
    let left = drop count new in
    let later = patched_pieces old left (pieces_from (end_of operation) size operations) in
    let sizes = length-append operation.insert (insertions operations) in
    let rest = new_pieces old left (end_of operation) size operations (omega (arith, length-drop count new, counted, sizes)) in
    omega (arith, length-append kept (news ++ later), length-append news later, length-take-le count new (omega (arith, counted, sizes)), length-drop count new, rest, counted, sizes)

pub inserted-within : (patch : Patch) (text : List ℕ) → length (inserted patch) ≤ length (text_after patch text)
unfolding text_after
inserted-within patch text = new_pieces text (inserted patch) 0 (length text) patch.ops refl
