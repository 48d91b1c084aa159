-- The segments up to the first that opens as empty.
use Rattle.std.proofs.Common.{◌≡◌, ◌≢◌, ◌∙◌, ◌⊎◌, inl, inr, ℕ, zero, suc, ◌+◌, ◌<◌, ◌≤◌, Bool, true, false, List, [], ◌∷◌, ◌++◌, Option, Some, None, refl, sym, ap, subst, arith}
use Rattle.std.proofs.lemmas.Bool.{cases_Bool, cases_order}
use Rattle.std.proofs.lemmas.List.{append-nil}
use Rattle.segment_files.specs.Joined.{has_payloads, IsReached, Filled, Joins}

-- what opens segments: two of them agree on each segment to which a load comes
abbrev pub Agree : (opened other : ℕ → Option (List (List ℕ))) → Type 0
Agree opened other = (k : ℕ) → IsReached opened k → other k ≡ opened k

pub reached_first : (opened : ℕ → Option (List (List ℕ))) → IsReached opened 0
reached_first opened j below = absurd (omega (arith, below))

pub reached_next : (opened : ℕ → Option (List (List ℕ))) (k : ℕ) → IsReached opened k → has_payloads (opened k) ≡ true → IsReached opened (suc k)
reached_next opened k reached filled j below = elim (cases_order j k) [
  | inl same ↦ ap (λ n. has_payloads (opened n)) same ∙ filled
  | inr (inl before) ↦ reached j before
  | inr (inr behind) ↦ absurd (omega (arith, below, behind))
]

-- filled segments are reached
pub filled_reached : (opened : ℕ → Option (List (List ℕ))) (count : ℕ) (payloads : List (List ℕ)) → Filled opened count payloads → IsReached opened count
filled_reached opened zero payloads filled = reached_first opened
filled_reached opened (suc count) payloads (front, last, before, is, some, whole) =
    reached_next opened count (filled_reached opened count front before) (ap has_payloads is ∙ some)

-- they have one list
pub filled_once : (opened : ℕ → Option (List (List ℕ))) (count : ℕ) (one other : List (List ℕ)) → Filled opened count one → Filled opened count other → one ≡ other
filled_once opened zero one other first second = first ∙ sym second
filled_once opened (suc count) one other (front, last, before, is, some, whole) (front', last', before', is', some', whole') =
    let fronts : front ≡ front' = filled_once opened count front front' before before' in
    let lists : Some last ≡ Some last' = sym is ∙ is' in
    let lasts : last ≡ last' = cc in
    whole ∙ ap (λ (l : List (List ℕ)). l ++ last) fronts ∙ ap (λ (l : List (List ℕ)). front' ++ l) lasts ∙ sym whole'

empty_not : (found : Option (List (List ℕ))) → found ≡ Some [] → has_payloads found ≡ true → ⊥
empty_not found is some = let never : false ≡ true = sym (ap has_payloads is) ∙ some in cc

pub joins_once : (opened : ℕ → Option (List (List ℕ))) (one other : List (List ℕ)) → Joins opened one → Joins opened other → one ≡ other
joins_once opened one other (count, filled, ends) (count', filled', ends') = elim (cases_order count count') [
  | inl same ↦ filled_once opened count' one other (subst (λ n. Filled opened n one) same filled) filled'
  | inr (inl before) ↦ absurd (empty_not (opened count) ends (filled_reached opened count' other filled' count before))
  | inr (inr behind) ↦ absurd (empty_not (opened count') ends' (filled_reached opened count one filled count' behind))
]

-- they follow from the segments to which a load comes
pub filled_same : (opened other : ℕ → Option (List (List ℕ))) (count : ℕ) (payloads : List (List ℕ)) → Agree opened other → Filled opened count payloads → Filled other count payloads
filled_same opened other zero payloads agree filled = filled
filled_same opened other (suc count) payloads agree (front, last, before, is, some, whole) =
    (front, last, filled_same opened other count front agree before, agree count (filled_reached opened count front before) ∙ is, some, whole)

pub joins_same : (opened other : ℕ → Option (List (List ℕ))) (payloads : List (List ℕ)) → Agree opened other → Joins opened payloads → Joins other payloads
joins_same opened other payloads agree (count, filled, ends) =
    (count, filled_same opened other count payloads agree filled, agree count (filled_reached opened count payloads filled) ∙ ends)

-- one more segment
pub joins_last : (opened : ℕ → Option (List (List ℕ))) (count : ℕ) (front last : List (List ℕ)) → Filled opened count front → opened count ≡ Some last → opened (suc count) ≡ Some []
    → Joins opened (front ++ last)
joins_last opened count front [] filled is ends = (count, subst (Filled opened count) (sym (append-nil front)) filled, is)
joins_last opened count front (payload ∷ last) filled is ends = (suc count, (front, payload ∷ last, filled, is, refl, refl), ends)
