use Rattle.std.proofs.Common.{◌≡◌, ◌≢◌, ℕ, ◌+◌, ◌<◌, ◌≤◌, ◌⊎◌, inl, inr, List, length, get_or, Contains, Some, slice_get, false, true, nat_eq, sym, subst, ◌∙◌, arith}
use Rattle.std.specs.Cmp.Lexicographic.{pointwise}
use Rattle.std.proofs.lemmas.Bool.{cases_lt}
use Rattle.std.proofs.lemmas.Option.{slice_get-get_or, slice_get_within}
use Rattle.pad_text.specs.declared.name.Name.{Name}
use Rattle.pad_plain.specs.declared.candidate.Candidate.{Candidate}
use Rattle.pad_plain.specs.Inside.Candidate.{names_of}
use Rattle.pad_list.proofs.CallerLemmas.{contains_map, mapped_from}
use Rattle.pad_plain.proofs.Places.{some_same, member_at, place_of, name_yes, name_no}
use Rattle.pad_plain.proofs.candidate.is_among.Goals as goal

here : (cs : List Candidate) (i : ℕ) (x : Candidate) (n : Name) → i < length cs → true ≡ pointwise nat_eq (get_or cs i x).name.0 n.0 → Contains (names_of cs) n
here cs i x n below e = subst (Contains (names_of cs)) (name_yes (get_or cs i x).name n e) (contains_map (λ y. y.name) cs (get_or cs i x) (member_at cs i (get_or cs i x) (slice_get-get_or cs i x below)))

not_here : (cs : List Candidate) (i : ℕ) (x : Candidate) (n : Name) → i < length cs → false ≡ pointwise nat_eq (get_or cs i x).name.0 n.0 → ((k : ℕ) (other : Candidate) → k < i → slice_get cs k ≡ Some other → other.name ≢ n) → (k : ℕ) (other : Candidate) → k < i + 1 → slice_get cs k ≡ Some other → other.name ≢ n
not_here cs i x n below e none k other less at = go (cases_lt k i)
  where
    go : (k < i) ⊎ (i ≤ k) → other.name ≢ n
    go (inl h) = none k other h at
    go (inr h) =
        let same : k ≡ i = omega (arith, h, less) in
        subst (λ y. y.name ≢ n) (some_same (get_or cs i x) other (sym (slice_get-get_or cs i x below) ∙ subst (λ j. slice_get cs j ≡ Some other) same at)) (name_no (get_or cs i x).name n e)

nowhere : (cs : List Candidate) (i : ℕ) (n : Name) → length cs ≤ i → ((k : ℕ) (other : Candidate) → k < i → slice_get cs k ≡ Some other → other.name ≢ n) → ¬ (Contains (names_of cs) n)
nowhere cs i n all none h =
    let (y, member, e) = mapped_from (λ y. y.name) cs n h in
    let p = place_of cs y member in
    none p.0 y (omega (arith, slice_get_within cs p.0 y p.1, all)) p.1 e

pub returns-then-eq : goal.returns-then-eq
returns-then-eq c = here c.args.candidates.now _ _ c.args.name.now c.loop-candidate-test.true c.if-eq.ensures

pub loop-candidate-preserved : goal.loop-candidate-preserved
loop-candidate-preserved c = not_here c.args.candidates.now _ _ c.args.name.now c.loop-candidate-test.true c.if-eq.ensures c.loop-candidate.invariant

pub returns : goal.returns
returns c = nowhere c.args.candidates.now _ c.args.name.now c.loop-candidate-test.false c.loop-candidate.invariant
