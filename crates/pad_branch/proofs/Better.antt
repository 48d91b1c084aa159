-- Which linkings become candidates.
use Rattle.std.proofs.Common.{◌≡◌, ℕ, ◌^◌, All, ◌+◌, ◌<◌, ◌≤◌, ◌⊎◌, inl, inr, List, [], ◌∷◌, ◌++◌, length, get_or, Contains, Some, slice_get, sym, ap, ◌∙◌, subst, arith}
use Rattle.std.proofs.lemmas.Bool.{cases_lt}
use Rattle.std.proofs.lemmas.List.Elements.{Contains-push_cases, Contains-append_left, Contains-push, Contains-get_or}
use Rattle.std.proofs.lemmas.Option.{get_or_from_slice_get, slice_get_within}
use Rattle.pad_text.specs.declared.name.Name.{Name}
use Rattle.pad_graph.specs.declared.linking.Linking.{Linking}
use Rattle.pad_branch.specs.declared.candidate.Candidate.{Candidate}
use Rattle.pad_branch.specs.Inside.Candidates.{candidate_of, Betters, BettersWithin, IsOneOf}
use Rattle.pad_branch.proofs.Choosing.{at_of}

-- of the first so many linkings those are there that better
abbrev pub HasFirst : List Linking → Name → ℕ → ℕ → List Candidate → ℕ → Type 0
HasFirst xs name height longest cs n = (k : ℕ) (x : Linking) → k < n → slice_get xs k ≡ Some x → BettersWithin x name height longest → Contains cs (candidate_of x)

some_same : {A : Type 0} (x y : A) → Some x ≡ Some y → x ≡ y
some_same x y e = cc

module _ (xs : List Linking) (name : Name) (height longest : ℕ) (cs : List Candidate) (n : ℕ) (x : Linking) (at : slice_get xs n ≡ Some x) (first : HasFirst xs name height longest cs n) where
  at_n : (k : ℕ) (y : Linking) → n ≤ k → k < n + 1 → slice_get xs k ≡ Some y → x ≡ y
  at_n k y low high e =
      let same : k ≡ n = omega (arith, low, high) in
      some_same x y (sym at ∙ subst (λ j. slice_get xs j ≡ Some y) same e)

  pub skips : ¬ (BettersWithin x name height longest) → HasFirst xs name height longest cs (n + 1)
  skips none k y h e better = go (cases_lt k n)
    where
      go : (k < n) ⊎ (n ≤ k) → Contains cs (candidate_of y)
      go (inl l) = first k y l e better
      go (inr l) = absurd (none (subst (λ z. BettersWithin z name height longest) (sym (at_n k y l h e)) better))

  module _ (new : List Candidate) (items : new ≡ cs ++ candidate_of x ∷ []) where
    pub takes : HasFirst xs name height longest new (n + 1)
    takes k y h e better = subst (λ zs. Contains zs (candidate_of y)) (sym items) (go (cases_lt k n))
      where
        go : (k < n) ⊎ (n ≤ k) → Contains (cs ++ candidate_of x ∷ []) (candidate_of y)
        go (inl l) = Contains-append_left cs (candidate_of x ∷ []) (candidate_of y) (first k y l e better)
        go (inr l) = subst (λ z. Contains (cs ++ candidate_of x ∷ []) (candidate_of z)) (at_n k y l h e) (Contains-push cs (candidate_of x))

    pub each_new : BettersWithin x name height longest → ((c : Candidate) → Contains cs c → IsOneOf xs name height longest c) → (c : Candidate) → Contains new c → IsOneOf xs name height longest c
    each_new better each c h = go (Contains-push_cases cs (candidate_of x) c (subst (λ zs. Contains zs c) items h))
      where
        go : Contains cs c ⊎ (candidate_of x ≡ c) → IsOneOf xs name height longest c
        go (inl m) = each c m
        go (inr e) = record { linking = x; among = (n, slice_get_within xs n x at, get_or_from_slice_get xs n x x at); is = sym e; betters = better }

pub has_every : (xs : List Linking) (name : Name) (height longest : ℕ) (cs : List Candidate) (n : ℕ) → length xs ≤ n → HasFirst xs name height longest cs n → (x : Linking) → Contains xs x → BettersWithin x name height longest → Contains cs (candidate_of x)
has_every xs name height longest cs n all first x member better =
    let j = at_of xs x member in first j.0 x (omega (arith, slice_get_within xs j.0 x j.1, all)) j.1 better

-- their heights are high enough, and not too high
pub few_of : (xs : List Linking) (name : Name) (height longest : ℕ) (cs : List Candidate) → longest + 1 < 2 ^ 64 → ((c : Candidate) → Contains cs c → IsOneOf xs name height longest c) → All (λ (candidate : Candidate). (height ≤ candidate.height.0) × (candidate.height.0 + 1 < 2 ^ 64)) cs
few_of xs name height longest cs few each k d inside =
    let o = each (get_or cs k d) (Contains-get_or cs k d inside) in
    let e : (get_or cs k d).height.0 ≡ o.linking.height = ap (λ (c : Candidate). c.height.0) o.is in
    (low o.linking o.betters.1 e, omega (arith, e, o.betters.0, few))
  where
    low : (x : Linking) → Betters x name height → (get_or cs k d).height.0 ≡ x.height → height ≤ (get_or cs k d).height.0
    low x (inl h) e = omega (arith, h, e)
    low x (inr h) e = omega (arith, h.0, e)
