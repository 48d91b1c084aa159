-- Where a default history starts.
use Rattle.std.proofs.Common.{◌≡◌, ◌∙◌, ◌⊎◌, inl, inr, ℕ, zero, suc, ◌+◌, ◌≤◌, Bool, true, false, cond, List, [], ◌∷◌, length, drop, if◌then◌else◌, refl, sym, ap, subst, arith}
use Rattle.std.specs.List.{count_by}
use Rattle.std.proofs.lemmas.List.Sums.{sum_by-cons}
use Rattle.keeper_entry.specs.Entry.{content_in}
use Rattle.keeper_entry.specs.History.{is_checkpoint, checkpoints_from, last_but_one, default_start}
use Rattle.keeper_table.specs.Span.{has_checkpoint, StartsByDefault}

-- one payload more in front
counted_more : (payload : List ℕ) (payloads : List (List ℕ)) → count_by has_checkpoint (payload ∷ payloads) ≡ cond (has_checkpoint payload) 1 0 + count_by has_checkpoint payloads
counted_more payload payloads = sum_by-cons (λ (p : List ℕ). cond (has_checkpoint p) 1 0) payload payloads

-- as many checkpoints as payloads that are one
counted : (index : ℕ) (payloads : List (List ℕ)) → length (checkpoints_from index payloads) ≡ count_by has_checkpoint payloads
counted index [] = refl
counted index (payload ∷ payloads) = choose (is_checkpoint (content_in payload)) (counted (suc index) payloads) ∙ sym (counted_more payload payloads)
  where
    choose : (is : Bool) → length (checkpoints_from (suc index) payloads) ≡ count_by has_checkpoint payloads
        → length (if is then index ∷ checkpoints_from (suc index) payloads else checkpoints_from (suc index) payloads) ≡ cond is 1 0 + count_by has_checkpoint payloads
    choose true so_far = omega (arith, so_far)
    choose false so_far = omega (arith, so_far)

-- one mark more in front
one_of_two : (first : ℕ) (marks : List ℕ) → length marks ≡ 1 → last_but_one (first ∷ marks) ≡ first
one_of_two first [] one = absurd (omega (arith, one))
one_of_two first (mark ∷ []) one = refl
one_of_two first (mark ∷ next ∷ marks) one = absurd (omega (arith, one))

one_of_more : (first : ℕ) (marks : List ℕ) → 2 ≤ length marks → last_but_one (first ∷ marks) ≡ last_but_one marks
one_of_more first [] two = absurd (omega (arith, two))
one_of_more first (mark ∷ []) two = absurd (omega (arith, two))
one_of_more first (mark ∷ next ∷ marks) two = refl

few : (marks : List ℕ) → length marks ≤ 1 → last_but_one marks ≡ 0
few [] one = refl
few (mark ∷ []) one = refl
few (mark ∷ next ∷ marks) one = absurd (omega (arith, one))

-- the payload at which it starts, counted from the first of these
record At (index : ℕ) (payloads : List (List ℕ)) : Type 0 where
  place : ℕ
  start : last_but_one (checkpoints_from index payloads) ≡ index + place
  two : count_by has_checkpoint (drop place payloads) ≡ 2
  one : count_by has_checkpoint (drop (place + 1) payloads) ≡ 1

starts : (index : ℕ) (payloads : List (List ℕ)) → 2 ≤ count_by has_checkpoint payloads → At index payloads
starts index [] many = absurd (omega (arith, many))
starts index (payload ∷ payloads) many = choose (is_checkpoint (content_in payload)) refl (count_by has_checkpoint payloads) refl (starts (suc index) payloads)
  where
    rest : List ℕ
    rest = checkpoints_from (suc index) payloads

    further : last_but_one (checkpoints_from index (payload ∷ payloads)) ≡ last_but_one rest → At (suc index) payloads → At index (payload ∷ payloads)
    further same at =
        let there : suc index + at.place ≡ index + suc at.place = omega arith in
        let behind : suc at.place + 1 ≡ suc (at.place + 1) = omega arith in
        record {
          place = suc at.place;
          start = same ∙ at.start ∙ there;
          two = at.two;
          one = ap (λ (n : ℕ). count_by has_checkpoint (drop n (payload ∷ payloads))) behind ∙ at.one;
        }

    choose : (is : Bool) → is_checkpoint (content_in payload) ≡ is → (count : ℕ) → count ≡ count_by has_checkpoint payloads → (2 ≤ count_by has_checkpoint payloads → At (suc index) payloads) → At index (payload ∷ payloads)
    choose false e count same later =
        let all : count_by has_checkpoint (payload ∷ payloads) ≡ 0 + count_by has_checkpoint payloads = counted_more payload payloads ∙ ap (λ b. cond b 1 0 + count_by has_checkpoint payloads) e in
        further (ap (λ b. last_but_one (if b then index ∷ rest else rest)) e) (later (omega (arith, many, all)))
    choose true e zero same later = absurd (let all : count_by has_checkpoint (payload ∷ payloads) ≡ 1 + count_by has_checkpoint payloads = counted_more payload payloads ∙ ap (λ b. cond b 1 0 + count_by has_checkpoint payloads) e in omega (arith, many, all, same))
    choose true e (suc zero) same later =
        let all : count_by has_checkpoint (payload ∷ payloads) ≡ 1 + count_by has_checkpoint payloads = counted_more payload payloads ∙ ap (λ b. cond b 1 0 + count_by has_checkpoint payloads) e in
        let here : index ≡ index + 0 = omega arith in
        record {
          place = 0;
          start = ap (λ b. last_but_one (if b then index ∷ rest else rest)) e ∙ one_of_two index rest (counted (suc index) payloads ∙ sym same) ∙ here;
          two = omega (arith, all, same);
          one = sym same;
        }
    choose true e (suc (suc count)) same later =
        further (ap (λ b. last_but_one (if b then index ∷ rest else rest)) e ∙ one_of_more index rest (omega (arith, counted (suc index) payloads, same))) (later (omega (arith, same)))

pub start : (payloads : List (List ℕ)) (count : ℕ) → count ≡ count_by has_checkpoint payloads → StartsByDefault payloads (default_start payloads)
start payloads zero same = inl (omega (arith, same), few (checkpoints_from 0 payloads) (omega (arith, counted 0 payloads, same)))
start payloads (suc zero) same = inl (omega (arith, same), few (checkpoints_from 0 payloads) (omega (arith, counted 0 payloads, same)))
start payloads (suc (suc count)) same =
    let at = starts 0 payloads (omega (arith, same)) in
    let here : 0 + at.place ≡ at.place = omega arith in
    let place : default_start payloads ≡ at.place = at.start ∙ here in
    inr (ap (λ n. count_by has_checkpoint (drop n payloads)) place ∙ at.two, ap (λ n. count_by has_checkpoint (drop (n + 1) payloads)) place ∙ at.one)
