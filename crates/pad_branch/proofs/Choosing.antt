-- The first sound path of those that one more message made, from the better to the worse, is the best one through the root.
use Rattle.std.proofs.Common.{◌≡◌, ℕ, ◌+◌, ◌<◌, ◌≤◌, ◌⊎◌, inl, inr, List, [], ◌∷◌, ◌++◌, length, Contains, Some, slice_get, true≢false, nat_cmp, Less, Equal, is_lt, refl, sym, ap, ap₂, ◌∙◌, subst, arith}
use Rattle.std.specs.Cmp.{IsTotalOrder, nat_cmp_is}
use Rattle.std.specs.Cmp.Lexicographic.{slice_cmp, nat_list_cmp_total}
use Rattle.std.specs.List.Sorted.{IsSorted}
use Rattle.std.specs.Ordering.{ordering_then}
use Rattle.std.proofs.lemmas.Bool.{cases_lt}
use Rattle.std.proofs.lemmas.Cmp.{on_total, then_total, back_total, nat_cmp_total}
use Rattle.std.proofs.lemmas.List.Elements.{All-contains}
use Rattle.std.proofs.lemmas.List.Sorted.{sorted_far, ranks_by}
use Rattle.std.proofs.lemmas.Option.{get_or_from_slice_get, slice_get_within, slice_get-get_or}
use Rattle.pad_text.specs.Name.{NameLess}
use Rattle.pad_message.specs.declared.message.Message.{Message}
use Rattle.pad_model.specs.declared.base.Base.{Base}
use Rattle.pad_branch.specs.declared.candidate.Candidate.{Candidate}
use Rattle.pad_model.specs.Path.{last_name, IsLinkedPath, EachSound, IsPath}
use Rattle.pad_model.specs.Best.{IsBetter}
use Rattle.pad_model.specs.Choice.{IsBestThrough, RunsThrough}
use Rattle.pad_branch.specs.Inside.Candidates.{candidate_cmp, IsCandidate, IsOffered, NoPathIn}
use Rattle.pad_list.proofs.CallerLemmas.{contains_cases, contains_more}
use Rattle.pad_model.proofs.CallerLemmas.{linked_unique, path_more, better_than, better_asym}

candidate_total : IsTotalOrder candidate_cmp
candidate_total = then_total (on_total (λ c. c.height.0) (back_total nat_cmp_total)) (on_total (λ c. c.name.0) nat_list_cmp_total)

longer_less : (c e : Candidate) → e.height.0 < c.height.0 → candidate_cmp c e ≡ Less
longer_less c e h = ap (λ o. ordering_then o (slice_cmp nat_cmp c.name.0 e.name.0)) (sym (nat_cmp_is e.height.0 c.height.0 Less h))

named_less : (c e : Candidate) → e.height.0 ≡ c.height.0 → NameLess c.name e.name → candidate_cmp c e ≡ Less
named_less c e h l = ap (λ o. ordering_then o (slice_cmp nat_cmp c.name.0 e.name.0)) (sym (nat_cmp_is e.height.0 c.height.0 Equal h)) ∙ l

-- a linked path that is new passes the new message
pub record Passes (m : Message) (p : List Message) : Type 0 where
  pub above : List Message
  pub under : List Message
  pub whole : p ≡ above ++ m ∷ under

pub linked_new : (b : Base) (R : List Message) (m : Message) (p : List Message) → IsLinkedPath b (m ∷ R) p → IsLinkedPath b R p ⊎ Passes m p
linked_new b R m [] h = inl tt
linked_new b R m (x ∷ p) h = go (contains_cases m R x h.0.member) (linked_new b R m p h.1)
  where
    go : (m ≡ x) ⊎ Contains R x → IsLinkedPath b R p ⊎ Passes m p → IsLinkedPath b R (x ∷ p) ⊎ Passes m (x ∷ p)
    go (inl e) rest = inr (record { above = []; under = p; whole = ap (λ y. y ∷ p) (sym e) })
    go (inr c) (inl old) = inl (record { member = c; not_base = h.0.not_base; parent = h.0.parent }, old)
    go (inr c) (inr s) = inr (record { above = x ∷ s.above; under = s.under; whole = ap (λ q. x ∷ q) s.whole })

pub at_of : {A : Type 0} (xs : List A) (x : A) → Contains xs x → (i : ℕ) × (slice_get xs i ≡ Some x)
at_of xs x (i, h, e) = (i, slice_get-get_or xs i x h ∙ ap Some e)

module _ (b : Base) (R : List Message) (m : Message) (below chosen : List Message) (xs : List Candidate) (o : IsOffered b R m below chosen xs) where
  record Tells (p : List Message) : Type 0 where
    candidate : Candidate
    at : ℕ
    is_at : slice_get xs at ≡ Some candidate
    named : candidate.name ≡ last_name b p
    high : candidate.height.0 ≡ length p

  told_new : (p above under : List Message) → IsPath b (m ∷ R) p → RunsThrough below p → IsBetter b p (chosen ++ below) → p ≡ above ++ m ∷ under → Tells p
  told_new p above under path through better e =
      let (c, member, named) = o.every above under (subst (IsLinkedPath b (m ∷ R)) e path.0) (subst (RunsThrough below) e through) (subst (λ q. IsBetter b q (chosen ++ below)) e better) in
      let is = All-contains (IsCandidate b (m ∷ R) below chosen) xs c o.each member in
      let name : c.name ≡ last_name b p = named ∙ ap (last_name b) (sym e) in
      let same : is.last ∷ is.rest ++ below ≡ p = linked_unique b (m ∷ R) (is.last ∷ is.rest ++ below) p o.differ is.linked path.0 (sym is.named ∙ name) in
      let j = at_of xs c member in
      record { candidate = c; at = j.0; is_at = j.1; named = name; high = is.high ∙ ap length same }

  -- a path that betters the best chain has a candidate
  told : (p : List Message) → IsPath b (m ∷ R) p → RunsThrough below p → IsBetter b p (chosen ++ below) → Tells p
  told p path through better = go (linked_new b R m p path.0)
    where
      go : IsLinkedPath b R p ⊎ Passes m p → Tells p
      go (inl old) = absurd (o.best.none_better p (old, path.1) through better)
      go (inr s) = told_new p s.above s.under path through better s.whole

  none_at : (p : List Message) (path : IsPath b (m ∷ R) p) (t : Tells p) → NoPathIn b (m ∷ R) t.candidate → ⊥
  none_at p path t none = none p path.0 (sym t.named) path.1

  -- where no path ends in a candidate the best chain stays
  pub stays_best : ((k : ℕ) (e : Candidate) → slice_get xs k ≡ Some e → NoPathIn b (m ∷ R) e) → IsBestThrough b (m ∷ R) below (chosen ++ below)
  stays_best none = record {
    path = path_more b R (m ∷ R) (chosen ++ below) (contains_more m R) o.best.path;
    through = o.best.through;
    none_better = λ p path through better. let t = told p path through better in none_at p path t (none t.at t.candidate t.is_at);
  }

  module _ (sorted : IsSorted candidate_cmp xs) (i : ℕ) (c : Candidate) (at : slice_get xs i ≡ Some c) (q : List Message) (linked : IsLinkedPath b (m ∷ R) (q ++ below)) (named : last_name b (q ++ below) ≡ c.name) (sound : EachSound b (q ++ below)) where
    is : IsCandidate b (m ∷ R) below chosen c
    is = All-contains (IsCandidate b (m ∷ R) below chosen) xs c o.each (i, slice_get_within xs i c at, get_or_from_slice_get xs i c c at)

    same : is.last ∷ is.rest ++ below ≡ q ++ below
    same = linked_unique b (m ∷ R) (is.last ∷ is.rest ++ below) (q ++ below) o.differ is.linked linked (sym is.named ∙ sym named)

    high : c.height.0 ≡ length (q ++ below)
    high = is.high ∙ ap length same

    better_less : (e : Candidate) (p : List Message) → e.name ≡ last_name b p → e.height.0 ≡ length p → IsBetter b p (q ++ below) → candidate_cmp e c ≡ Less
    better_less e p n l (inl longer) = longer_less e c (omega (arith, longer, l, high))
    better_less e p n l (inr (tie, less)) = named_less e c (omega (arith, tie, l, high)) (subst (λ x. NameLess x c.name) (sym n) (subst (NameLess (last_name b p)) named less))

    after : (e : Candidate) (j : ℕ) → slice_get xs j ≡ Some e → i ≤ j → candidate_cmp e c ≡ Less → ⊥
    after e j at_j later less =
        let far = sorted_far (λ x y. is_lt (candidate_cmp x y)) (ranks_by candidate_total (λ x. x)) xs sorted i j c later (slice_get_within xs j e at_j) in
        true≢false (ap is_lt (sym less) ∙ sym (ap₂ (λ x y. is_lt (candidate_cmp x y)) (get_or_from_slice_get xs j e c at_j) (get_or_from_slice_get xs i c c at)) ∙ far)

    -- the first candidate in which a path ends tells the best one
    pub wins : ((k : ℕ) (e : Candidate) → k < i → slice_get xs k ≡ Some e → NoPathIn b (m ∷ R) e) → IsBestThrough b (m ∷ R) below (q ++ below)
    wins none = record { path = (linked, sound); through = (q, refl); none_better = none_better }
      where
        q_better : IsBetter b (q ++ below) (chosen ++ below)
        q_better = subst (λ p. IsBetter b p (chosen ++ below)) same is.better

        none_better : (p : List Message) → IsPath b (m ∷ R) p → RunsThrough below p → ¬ (IsBetter b p (q ++ below))
        none_better p path through better = go (told p path through (better_than b p (chosen ++ below) (q ++ below) better (better_asym b (q ++ below) (chosen ++ below) q_better)))
          where
            go : Tells p → ⊥
            go t = which (cases_lt t.at i)
              where
                which : (t.at < i) ⊎ (i ≤ t.at) → ⊥
                which (inl k) = none_at p path t (none t.at t.candidate k t.is_at)
                which (inr k) = after t.candidate t.at t.is_at k (better_less t.candidate p t.named t.high better)

-- one candidate more in which no path ends
pub none_more : (b : Base) (R : List Message) (xs : List Candidate) (n : ℕ) (c : Candidate) → slice_get xs n ≡ Some c → NoPathIn b R c → ((k : ℕ) (e : Candidate) → k < n → slice_get xs k ≡ Some e → NoPathIn b R e) → (k : ℕ) (e : Candidate) → k < n + 1 → slice_get xs k ≡ Some e → NoPathIn b R e
none_more b R xs n c at here none k e h at_k = go (cases_lt k n)
  where
    some_same : (x y : Candidate) → Some x ≡ Some y → x ≡ y
    some_same x y e = cc

    go : (k < n) ⊎ (n ≤ k) → NoPathIn b R e
    go (inl l) = none k e l at_k
    go (inr l) =
        let same : k ≡ n = omega (arith, l, h) in
        subst (NoPathIn b R) (some_same c e (sym at ∙ subst (λ i. slice_get xs i ≡ Some e) same at_k)) here
