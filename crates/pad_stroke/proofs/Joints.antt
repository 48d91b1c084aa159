-- Operations that touch, joined.
use Rattle.std.proofs.Common.{◌≡◌, ℕ, suc, ◌+◌, ◌^◌, ◌<◌, ◌≤◌, ◌⊎◌, inl, inr, Bool, true, false, cond, ◌==◌, List, [], ◌∷◌, ◌++◌, length, refl, sym, ◌∙◌, ap, subst, arith, append_assoc}
use Rattle.std.specs.Prelude.{◌≢◌, All}
use Rattle.std.proofs.lemmas.List.Elements.{All-head}
use Rattle.std.proofs.lemmas.List.{length-append}
use Rattle.std.proofs.lemmas.Bool.{eqb-true, eqb-false, eq-eqb, ne_eqb}
use Rattle.pad_patch.specs.declared.operation.Operation.{Operation}
use Rattle.pad_patch.specs.Piece.{end_of, insertions}
use Rattle.pad_merge.proofs.CallerLemmas.{IsSpaced}
use Rattle.pad_stroke.specs.Through.{together, in_front, joined}

-- the two ways in which an operation stands in front of others
pub data IsFront (operation next : Operation) (later front : List Operation) : Type 0 where
  touching : end_of operation ≡ next.offset → front ≡ together operation next ∷ later → IsFront operation next later front
  apart : end_of operation ≢ next.offset → front ≡ operation ∷ next ∷ later → IsFront operation next later front

front_by : (operation next : Operation) (later : List Operation) (test : Bool) → (end_of operation == next.offset) ≡ test
    → IsFront operation next later (cond test (together operation next ∷ later) (operation ∷ next ∷ later))
front_by operation next later true same = touching (eqb-true (end_of operation) next.offset same) refl
front_by operation next later false other = apart (eqb-false (end_of operation) next.offset other) refl

pub front_cases : (operation next : Operation) (later : List Operation) → IsFront operation next later (in_front operation (next ∷ later))
front_cases operation next later = front_by operation next later (end_of operation == next.offset) refl

in_front-touching : (operation next : Operation) (later : List Operation) → end_of operation ≡ next.offset → in_front operation (next ∷ later) ≡ together operation next ∷ later
in_front-touching operation next later same =
    ap (λ test. cond test (together operation next ∷ later) (operation ∷ next ∷ later)) (eq-eqb (end_of operation) next.offset same)

in_front-apart : (operation next : Operation) (later : List Operation) → end_of operation ≢ next.offset → in_front operation (next ∷ later) ≡ operation ∷ next ∷ later
in_front-apart operation next later other =
    ap (λ test. cond test (together operation next ∷ later) (operation ∷ next ∷ later)) (ne_eqb (end_of operation) next.offset other)

-- the operations of which the first two touch
together-assoc : (first second third : Operation) → together first (together second third) ≡ together (together first second) third
together-assoc first second third =
    let sums : first.remove + (second.remove + third.remove) ≡ first.remove + second.remove + third.remove = omega arith in
    ap (λ n. record { offset = first.offset; remove = n; insert = first.insert ++ (second.insert ++ third.insert) }) sums
    ∙ ap (λ us. record { offset = first.offset; remove = first.remove + second.remove + third.remove; insert = us }) (sym (append_assoc first.insert second.insert third.insert))

pub in_front-together : (first second : Operation) (later : List Operation) → end_of first ≡ second.offset
    → in_front first (in_front second later) ≡ in_front (together first second) later
in_front-together first second [] same = in_front-touching first second [] same
in_front-together first second (third ∷ later) same = elim (front_cases second third later) [
  | touching ends is ↦
      ap (in_front first) is
      ∙ in_front-touching first (together second third) later same
      ∙ ap (λ o. o ∷ later) (together-assoc first second third)
      ∙ sym (in_front-touching (together first second) third later (omega arith))
  | apart other is ↦
      ap (in_front first) is
      ∙ in_front-touching first second (third ∷ later) same
      ∙ sym (in_front-apart (together first second) third later (λ equal. other (omega arith)))
]

pub in_front-next : (first second : Operation) (later : List Operation) → end_of first ≢ second.offset
    → in_front first (in_front second later) ≡ first ∷ in_front second later
in_front-next first second [] other = in_front-apart first second [] other
in_front-next first second (third ∷ later) other = elim (front_cases second third later) [
  | touching ends is ↦
      ap (in_front first) is ∙ in_front-apart first (together second third) later other ∙ ap (λ os. first ∷ os) (sym is)
  | apart more is ↦
      ap (in_front first) is ∙ in_front-apart first second (third ∷ later) other ∙ ap (λ os. first ∷ os) (sym is)
]

-- an operation removes fewer than 2^32 units
abbrev pub RemovesFew : Operation → Type 0
RemovesFew operation = operation.remove < 2 ^ 32

few_by : (operation next : Operation) (later front : List Operation) → IsFront operation next later front → All RemovesFew front → RemovesFew operation
few_by operation next later front (touching same is) few =
    let joint = All-head RemovesFew (together operation next) later (subst (All RemovesFew) is few) in
    omega arith
few_by operation next later front (apart other is) few = All-head RemovesFew operation (next ∷ later) (subst (All RemovesFew) is few)

-- an operation removes no more than the joined one that it is in
pub few_of_first : (operation : Operation) (later : List Operation) → All RemovesFew (in_front operation later) → RemovesFew operation
few_of_first operation [] few = All-head RemovesFew operation [] few
few_of_first operation (next ∷ later) few = few_by operation next later (in_front operation (next ∷ later)) (front_cases operation next later) few

insertions-in_front : (operation : Operation) (later : List Operation) → insertions (in_front operation later) ≡ operation.insert ++ insertions later
insertions-in_front operation [] = refl
insertions-in_front operation (next ∷ later) = elim (front_cases operation next later) [
  | touching same is ↦ ap insertions is ∙ append_assoc operation.insert next.insert (insertions later)
  | apart other is ↦ ap insertions is
]

-- joining changes nothing of what is inserted
pub insertions-joined : (operations : List Operation) → insertions (joined operations) ≡ insertions operations
insertions-joined [] = refl
insertions-joined (operation ∷ operations) =
    insertions-in_front operation (joined operations) ∙ ap (λ us. operation.insert ++ us) (insertions-joined operations)

-- operations from a place on, none of them empty, each of which ends before the next one starts or where it does
abbrev pub IsRow : ℕ → List Operation → Type 0
IsRow low [] = Unit {0}
IsRow low (operation ∷ operations) =
    (low ≤ operation.offset) × ((0 < operation.remove) ⊎ (0 < length operation.insert)) × IsRow (end_of operation) operations

needed-together : (first second : Operation) → (0 < first.remove) ⊎ (0 < length first.insert)
    → (0 < (together first second).remove) ⊎ (0 < length (together first second).insert)
needed-together first second (inl some) = inl (omega arith)
needed-together first second (inr some) = inr (omega (arith, length-append first.insert second.insert))

spaced-in_front : (low : ℕ) (operation : Operation) (later : List Operation) → low ≤ operation.offset → (0 < operation.remove) ⊎ (0 < length operation.insert)
    → IsSpaced (end_of operation) later → IsSpaced low (in_front operation later)
spaced-in_front low operation [] starts needed spaced = (starts, needed, tt)
spaced-in_front low operation (next ∷ later) starts needed spaced = elim (front_cases operation next later) [
  | touching same is ↦
      let end : end_of next ≡ end_of (together operation next) = omega arith in
      subst (IsSpaced low) (sym is) (starts, needed-together operation next needed, subst (λ n. IsSpaced (suc n) later) end spaced.2)
  | apart other is ↦
      let starts_next = spaced.0 in
      subst (IsSpaced low) (sym is) (starts, needed, (omega arith, spaced.1, spaced.2))
]

-- joined operations do not touch
pub spaced-joined : (low : ℕ) (operations : List Operation) → IsRow low operations → IsSpaced low (joined operations)
spaced-joined low [] row = tt
spaced-joined low (operation ∷ operations) (starts, needed, rest) =
    spaced-in_front low operation (joined operations) starts needed (spaced-joined (end_of operation) operations rest)
