-- The first sound path through the root, of linked paths from the better to the worse, is the best through it.
use Rattle.std.proofs.Common.{◌≡◌, ℕ, ◌+◌, ◌<◌, ◌≤◌, ◌⊎◌, inl, inr, List, [], ◌∷◌, length, Contains, All, Some, slice_get, true≢false, nat_cmp, Ordering, Less, Equal, is_lt, refl, sym, ap, ap₂, ◌∙◌, subst, arith}
use Rattle.std.specs.Cmp.{IsTotalOrder, nat_cmp_is}
use Rattle.std.specs.Cmp.Lexicographic.{slice_cmp, nat_list_cmp_total}
use Rattle.std.specs.List.Sorted.{IsSorted}
use Rattle.std.specs.Ordering.{ordering_then}
use Rattle.std.proofs.lemmas.Bool.{cases_lt}
use Rattle.std.proofs.lemmas.Cmp.{on_total, then_total, back_total, nat_cmp_total}
use Rattle.std.proofs.lemmas.List.Elements.{All-contains}
use Rattle.std.proofs.lemmas.List.Sorted.{sorted_far, ranks_by}
use Rattle.std.proofs.lemmas.Option.{get_or_from_slice_get, slice_get_within}
use Rattle.pad_text.specs.Name.{NameLess}
use Rattle.pad_message.specs.declared.message.Message.{Message}
use Rattle.pad_message.specs.Message.{name_of}
use Rattle.pad_model.specs.declared.base.Base.{Base}
use Rattle.pad_model.specs.Path.{last_name, IsLinkedPath, IsPath, NamesDiffer}
use Rattle.pad_model.specs.Best.{IsBetter}
use Rattle.pad_model.specs.Choice.{RunsThrough}
use Rattle.pad_plain.specs.declared.candidate.Candidate.{Candidate}
use Rattle.pad_plain.specs.declared.path.Path.{Path}
use Rattle.pad_plain.specs.Inside.Walk.{messages_at, LeadsTo}
use Rattle.pad_plain.specs.Inside.Links.{IsCandidate, HasEveryLinked}
use Rattle.pad_plain.specs.Inside.Through.{IsSoundTo, NoPathThrough, OnlyTheBase, IsPathThrough, IsBestFound}
use Rattle.pad_model.proofs.CallerLemmas.{linked_unique, never_better_itself}
use Rattle.pad_plain.proofs.Places.{some_same, member_at, place_of}
use Rattle.pad_plain.proofs.Throughs.{same_path}

-- the order of candidates
abbrev pub candidate_cmp : Candidate → Candidate → Ordering
candidate_cmp c e = ordering_then (nat_cmp e.height.0 c.height.0) (ordering_then (slice_cmp nat_cmp c.name.0 e.name.0) (nat_cmp c.place e.place))

candidate_total : IsTotalOrder candidate_cmp
candidate_total = then_total (on_total (λ c. c.height.0) (back_total nat_cmp_total)) (then_total (on_total (λ c. c.name.0) nat_list_cmp_total) (on_total (λ c. c.place) nat_cmp_total))

-- the better of two is less
longer_less : (c e : Candidate) → e.height.0 < c.height.0 → candidate_cmp c e ≡ Less
longer_less c e h = ap (λ o. ordering_then o (ordering_then (slice_cmp nat_cmp c.name.0 e.name.0) (nat_cmp c.place e.place))) (sym (nat_cmp_is e.height.0 c.height.0 Less h))

named_less : (c e : Candidate) → e.height.0 ≡ c.height.0 → NameLess c.name e.name → candidate_cmp c e ≡ Less
named_less c e h l =
    ap (λ o. ordering_then o (ordering_then (slice_cmp nat_cmp c.name.0 e.name.0) (nat_cmp c.place e.place))) (sym (nat_cmp_is e.height.0 c.height.0 Equal h))
    ∙ ap (λ o. ordering_then o (nat_cmp c.place e.place)) l

-- a candidate's path is the linked path to its last message
pub told_path : (b : Base) (R : List Message) (c : Candidate) → NamesDiffer R → (is : IsCandidate b R c) → (m : Message) (q : List Message) → c.name ≡ name_of m → IsLinkedPath b R (m ∷ q) → is.last ∷ is.before ≡ m ∷ q
told_path b R c d is m q named h = linked_unique b R (is.last ∷ is.before) (m ∷ q) d is.linked h (sym is.named ∙ named)

module _ (b : Base) (R r : List Message) (xs : List Candidate) (d : NamesDiffer R) (each : All (IsCandidate b R) xs) (every : HasEveryLinked b R xs) where
  -- the candidate that tells this path
  record Tells (m : Message) (before : List Message) : Type 0 where
    candidate : Candidate
    at : ℕ
    is_at : slice_get xs at ≡ Some candidate
    at_place : slice_get R candidate.place ≡ Some m
    named : candidate.name ≡ name_of m
    high : candidate.height.0 ≡ length (m ∷ before)

  told : (m : Message) (before : List Message) → IsLinkedPath b R (m ∷ before) → Tells m before
  told m before linked =
      let (e, c, named) = every m (before, linked) in
      let is = All-contains (IsCandidate b R) xs e each c in
      let j = place_of xs e c in
      let same : is.last ≡ m = d is.last m (member_at R e.place is.last is.at_place) linked.0.member (sym is.named ∙ named) in
      let path : is.last ∷ is.before ≡ m ∷ before = told_path b R e d is m before named linked in
      record {
        candidate = e;
        at = j.0;
        is_at = j.1;
        at_place = is.at_place ∙ ap Some same;
        named = named;
        high = is.high ∙ omega (arith, ap length path);
      }

  pub best_found : IsSorted candidate_cmp xs → (i : ℕ) (c : Candidate) → slice_get xs i ≡ Some c → ((k : ℕ) (e : Candidate) → k < i → slice_get xs k ≡ Some e → NoPathThrough b R r e.place) → (p : Path) → IsSoundTo b R c p → RunsThrough r (messages_at R p.places.items) → IsBestFound b R r p
  best_found sorted i c at none p h through = record {
    best = record { path = (h.to.linked, h.sound); through = through; none_better = none_better };
    tip = h.tip;
  }
    where
      chain : List Message
      chain = messages_at R p.places.items

      is : IsCandidate b R c
      is = All-contains (IsCandidate b R) xs c each (member_at xs i c at)

      path : is.last ∷ is.before ≡ chain
      path = same_path b R c.place chain h.to d is.last is.before is.at_place is.linked

      named : c.name ≡ last_name b chain
      named = is.named ∙ ap (last_name b) path

      high : c.height.0 ≡ length chain
      high = is.high ∙ omega (arith, ap length path)

      better_less : (e : Candidate) (m : Message) (q : List Message) → e.name ≡ name_of m → e.height.0 ≡ length (m ∷ q) → IsBetter b (m ∷ q) chain → candidate_cmp e c ≡ Less
      better_less e m q n l (inl longer) = longer_less e c (omega (arith, longer, l, high))
      better_less e m q n l (inr (same, less)) = named_less e c (omega (arith, same, l, high)) (subst (λ x. NameLess x c.name) (sym n) (subst (NameLess (name_of m)) (sym named) less))

      after : (e : Candidate) (j : ℕ) → slice_get xs j ≡ Some e → i ≤ j → candidate_cmp e c ≡ Less → ⊥
      after e j at_j later less =
          let far = sorted_far (λ x y. is_lt (candidate_cmp x y)) (ranks_by candidate_total (λ x. x)) xs sorted i j c later (slice_get_within xs j e at_j) in
          true≢false (ap is_lt (sym less) ∙ sym (ap₂ (λ x y. is_lt (candidate_cmp x y)) (get_or_from_slice_get xs j e c at_j) (get_or_from_slice_get xs i c c at)) ∙ far)

      none_better : (q : List Message) → IsPath b R q → RunsThrough r q → ¬ (IsBetter b q chain)
      none_better [] g t (inl longer) = omega (arith, longer)
      none_better [] g t (inr tie) = omega (arith, tie.0, high, is.high)
      none_better (m ∷ q) g t better = go (told m q g.0)
        where
          go : Tells m q → ⊥
          go f = which (cases_lt f.at i)
            where
              which : (f.at < i) ⊎ (i ≤ f.at) → ⊥
              which (inl k) = none f.at f.candidate k f.is_at m q f.at_place g t
              which (inr k) = after f.candidate f.at f.is_at k (better_less f.candidate m q f.named f.high better)

  pub none_found : ((k : ℕ) (e : Candidate) → slice_get xs k ≡ Some e → NoPathThrough b R r e.place) → OnlyTheBase b R r
  none_found none m q g t = let f = told m q g.0 in none f.at f.candidate f.is_at m q f.at_place g t

-- one candidate more that no path through the root ends in
pub none_more : (b : Base) (R r : List Message) (xs : List Candidate) (n : ℕ) (c : Candidate) → slice_get xs n ≡ Some c → NoPathThrough b R r c.place → ((k : ℕ) (e : Candidate) → k < n → slice_get xs k ≡ Some e → NoPathThrough b R r e.place) → (k : ℕ) (e : Candidate) → k < n + 1 → slice_get xs k ≡ Some e → NoPathThrough b R r e.place
none_more b R r xs n c at here none k e h at_k = go (cases_lt k n)
  where
    go : (k < n) ⊎ (n ≤ k) → NoPathThrough b R r e.place
    go (inl l) = none k e l at_k
    go (inr l) =
        let same : k ≡ n = omega (arith, l, h) in
        subst (λ x. NoPathThrough b R r x.place) (some_same c e (sym at ∙ subst (λ i. slice_get xs i ≡ Some e) same at_k)) here

-- what was chosen before is the best again where there is no other path through the root but the base alone
pub old_is_best : (b : Base) (R r : List Message) (p : Path) → OnlyTheBase b R r → IsPathThrough b R r p → IsBestFound b R r p
old_is_best b R r p only is = record {
  best = record { path = is.is_path; through = is.through; none_better = go (messages_at R p.places.items) is.is_path is.through };
  tip = is.tip;
}
  where
    go : (chain : List Message) → IsPath b R chain → RunsThrough r chain → (q : List Message) → IsPath b R q → RunsThrough r q → ¬ (IsBetter b q chain)
    go (m ∷ chain) path through q g t better = only m chain path through
    go [] path through [] g t better = never_better_itself b [] better
    go [] path through (m ∷ q) g t better = only m q g t
