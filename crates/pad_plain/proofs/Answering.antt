-- What the tests of a candidate say of its last message: whether it overtakes, and whether it is kept.
use Rattle.std.proofs.Common.{◌≡◌, ◌≢◌, ℕ, zero, suc, ◌+◌, ◌<◌, ◌≤◌, ◌⊎◌, inl, inr, List, [], ◌∷◌, ◌++◌, length, Contains, All, Bool, true, false, Option, Some, None, is_none, is_some, not, true≢false, slice_get, MatchBool, MatchOption, refl, sym, ap, ◌∙◌, subst, arith, length-append}
use Rattle.std.proofs.lemmas.List.Elements.{All-contains, Contains-append_left}
use Rattle.pad_text.specs.Name.{NameLess}
use Rattle.pad_message.specs.declared.message.Message.{Message}
use Rattle.pad_message.specs.Message.{name_of}
use Rattle.pad_model.specs.declared.base.Base.{Base}
use Rattle.pad_model.specs.Path.{last_name, IsLinkedPath, IsLinked, NamesDiffer}
use Rattle.pad_model.specs.Best.{IsBetter}
use Rattle.pad_model.specs.Choice.{RunsThrough, Choice, Overtakes}
use Rattle.pad_model.specs.Count.{IsKept}
use Rattle.pad_plain.specs.declared.candidate.Candidate.{Candidate}
use Rattle.pad_plain.specs.declared.choice.Chosen.{Chosen}
use Rattle.pad_plain.specs.declared.path.Tip.{Tip}
use Rattle.pad_plain.specs.Tip.{IsTipOf}
use Rattle.pad_plain.specs.Inside.Candidate.{IsBetterThanTip, names_of}
use Rattle.pad_plain.specs.Inside.Links.{IsCandidate, AreLinkedOf}
use Rattle.pad_plain.specs.Inside.Through.{IsRoot, IsThroughTo}
use Rattle.pad_plain.specs.Inside.Chosen.{IsChosenAs}
use Rattle.pad_plain.specs.Inside.Among.{IsSaidOf}
use Rattle.pad_list.proofs.CallerLemmas.{contains_map, mapped_from}
use Rattle.pad_model.proofs.CallerLemmas.{linked_more}
use Rattle.pad_plain.proofs.Places.{some_same, member_at}
use Rattle.pad_plain.proofs.Choosing.{told_path}
use Rattle.pad_plain.proofs.Stepping.{newest_first}

module _ (b : Base) (R : List Message) (d : NamesDiffer R) (cand : Candidate) (k : IsCandidate b R cand) (x : Message) (at_x : slice_get R cand.place ≡ Some x) where
  last_is : k.last ≡ x
  last_is = some_same k.last x (sym k.at_place ∙ at_x)

  named : cand.name ≡ name_of x
  named = k.named ∙ ap name_of last_is

  -- the candidate's path is the linked path to x
  own_path : IsLinkedPath b R (x ∷ k.before)
  own_path = subst (λ y. IsLinkedPath b R (y ∷ k.before)) last_is k.linked

  high : (q : List Message) → IsLinkedPath b R (x ∷ q) → cand.height.0 ≡ length (x ∷ q)
  high q h = let same : k.last ∷ k.before ≡ x ∷ q = told_path b R cand d k x q named h in omega (arith, k.high, ap length same)

  told_better : (q chosen : List Message) (tip : Tip) → IsLinkedPath b R (x ∷ q) → IsTipOf b chosen tip → IsBetter b (x ∷ q) chosen → IsBetterThanTip cand tip
  told_better q chosen tip h t (inl l) = inl (omega (arith, l, high q h, t.high))
  told_better q chosen tip h t (inr (e, l)) = inr (omega (arith, e, high q h, t.high), subst (λ n. NameLess n tip.name) (sym named) (subst (NameLess (name_of x)) (sym t.named) l))

  really_better : (q chosen : List Message) (tip : Tip) → IsLinkedPath b R (x ∷ q) → IsTipOf b chosen tip → IsBetterThanTip cand tip → IsBetter b (x ∷ q) chosen
  really_better q chosen tip h t (inl l) = inl (omega (arith, l, high q h, t.high))
  really_better q chosen tip h t (inr (e, l)) = inr (omega (arith, e, high q h, t.high), subst (NameLess (name_of x)) t.named (subst (λ n. NameLess n tip.name) named l))

none_told : {A : Type 0} (found : Option A) (t : Bool) → is_some found ≡ not t → t ≡ is_none found
none_told (Some a) true e = absurd (true≢false e)
none_told (Some a) false e = refl
none_told None true e = refl
none_told None false e = absurd (true≢false (sym e))

-- ---- overtaking

module _ (b : Base) (R S : List Message) (m : Message) (whole : R ≡ S ++ m ∷ []) (d : NamesDiffer R) (before : Chosen) (c : Choice) (is : IsChosenAs b S before c) where
  to_newest : (x : Message) → Contains R x → Contains (m ∷ S) x
  to_newest x h = (newest_first S m x).0 (subst (λ l. Contains l x) whole h)

  from_newest : (x : Message) → Contains (m ∷ S) x → Contains R x
  from_newest x h = subst (λ l. Contains l x) (sym whole) ((newest_first S m x).1 h)

  from_old : (x : Message) → Contains S x → Contains R x
  from_old x h = subst (λ l. Contains l x) (sym whole) (Contains-append_left S (m ∷ []) x h)

  in_all : (x : Message) (o : Overtakes b S m c x) → IsLinkedPath b R (x ∷ o.before)
  in_all x o = linked_more b (m ∷ S) R (x ∷ o.before) from_newest o.below.0

  pub overtaker_linked : (x : Message) → Overtakes b S m c x → IsLinked b R x
  overtaker_linked x o = (o.before, in_all x o)

  pub was_linked : (cand : Candidate) → IsCandidate b R cand → (past : List Candidate) → AreLinkedOf b S past → Contains (names_of past) cand.name → (answer : Bool) → answer ≡ false → IsSaidOf R (Overtakes b S m c) cand answer
  was_linked cand k past linked h answer e x at_x = subst (λ t. MatchBool t (Overtakes b S m c x) (¬ (Overtakes b S m c x))) (sym e) (λ o. o.was_not_linked (go (mapped_from (λ y. y.name) past cand.name h)))
    where
      go : (p : Candidate) × Contains past p × (p.name ≡ cand.name) → IsLinked b S x
      go (p, member, e) =
          let pk = All-contains (IsCandidate b S) past p linked.0 member in
          let same : pk.last ≡ x = d pk.last x (from_old pk.last pk.linked.0.member) (own_path b R d cand k x at_x).0.member (sym pk.named ∙ e ∙ named b R d cand k x at_x) in
          subst (IsLinked b S) same (pk.before, pk.linked)

  pub not_better : (cand : Candidate) → IsCandidate b R cand → ¬ (IsBetterThanTip cand before.path.tip) → (answer : Bool) → answer ≡ false → IsSaidOf R (Overtakes b S m c) cand answer
  not_better cand k n answer e x at_x = subst (λ t. MatchBool t (Overtakes b S m c x) (¬ (Overtakes b S m c x))) (sym e) (λ o. n (told_better b R d cand k x at_x o.before c.chosen before.path.tip (in_all x o) is.tip o.better))

  pub says_overtakes : {A : Type 0} (cand : Candidate) → IsCandidate b R cand → (past : List Candidate) → AreLinkedOf b S past → ¬ (Contains (names_of past) cand.name) → IsBetterThanTip cand before.path.tip → (found : Option A) → IsThroughTo b R c.root cand.place found → (answer : Bool) → is_some found ≡ not answer → IsSaidOf R (Overtakes b S m c) cand answer
  says_overtakes {A = A} cand k past linked apart better found through answer e x at_x =
      subst (λ t. MatchBool t (Overtakes b S m c x) (¬ (Overtakes b S m c x))) (sym (none_told found answer e)) (go found (λ q. through x q at_x))
    where
      path : IsLinkedPath b R (x ∷ k.before)
      path = own_path b R d cand k x at_x

      go : (found : Option A) → ((q : List Message) → IsLinkedPath b R (x ∷ q) → MatchOption found (¬ (RunsThrough c.root (x ∷ q))) (λ _. RunsThrough c.root (x ∷ q))) → MatchBool (is_none found) (Overtakes b S m c x) (¬ (Overtakes b S m c x))
      go (Some a) t = λ o. o.below.1 (t o.before (in_all x o))
      go None t = record {
        was_not_linked = λ l. let (p, member, e) = linked.1 x l in apart (subst (Contains (names_of past)) (e ∙ sym (named b R d cand k x at_x)) (contains_map (λ y. y.name) past p member));
        before = k.before;
        below = (linked_more b R (m ∷ S) (x ∷ k.before) to_newest path, t k.before path);
        better = really_better b R d cand k x at_x k.before c.chosen before.path.tip path is.tip better;
      }

-- ---- being kept

module _ (b : Base) (R : List Message) (d : NamesDiffer R) (root : Tip) (path : List Message) (is : IsRoot b R root path) (cand : Candidate) (k : IsCandidate b R cand) where
  pub kept_linked : (x : Message) → IsKept b R path x → IsLinked b R x
  kept_linked x h = (h.0, h.1)

  pub not_above : cand.height.0 ≤ root.height → (answer : Bool) → answer ≡ false → IsSaidOf R (IsKept b R path) cand answer
  not_above low answer e x at_x = subst (λ t. MatchBool t (IsKept b R path x) (¬ (IsKept b R path x))) (sym e) none
    where
      none : ¬ (IsKept b R path x)
      none (q, h, (above, w)) = omega (arith, low, high b R d cand k x at_x q h, is.tip.high, ap length w, length-append above path)

  pub says_kept : {A : Type 0} → root.height < cand.height.0 → (found : Option A) → IsThroughTo b R path cand.place found → (answer : Bool) → answer ≡ is_some found → IsSaidOf R (IsKept b R path) cand answer
  says_kept {A = A} tall found through answer e x at_x =
      subst (λ t. MatchBool t (IsKept b R path x) (¬ (IsKept b R path x))) (sym e) (go found (λ q. through x q at_x))
    where
      own : IsLinkedPath b R (x ∷ k.before)
      own = own_path b R d cand k x at_x

      tail_same : (y z : Message) (s t : List Message) → y ∷ s ≡ z ∷ t → s ≡ t
      tail_same y z s t e = cc

      after : RunsThrough path (x ∷ k.before) → RunsThrough path k.before
      after ([], w) = absurd (omega (arith, tall, high b R d cand k x at_x k.before own, is.tip.high, ap length w))
      after (y ∷ above, w) = (above, tail_same x y k.before (above ++ path) w)

      more : (q : List Message) → RunsThrough path q → RunsThrough path (x ∷ q)
      more q (above, w) = (x ∷ above, ap (λ l. x ∷ l) w)

      go : (found : Option A) → ((q : List Message) → IsLinkedPath b R (x ∷ q) → MatchOption found (¬ (RunsThrough path (x ∷ q))) (λ _. RunsThrough path (x ∷ q))) → MatchBool (is_some found) (IsKept b R path x) (¬ (IsKept b R path x))
      go (Some a) t = (k.before, own, after (t k.before own))
      go None t = λ h. t h.0 h.1 (more h.0 h.2)
