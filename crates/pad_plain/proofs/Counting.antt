-- How many of the last messages of candidates there are of which something holds.
use Rattle.std.proofs.Common.{◌≡◌, ◌≢◌, ◌↔◌, ℕ, zero, suc, ◌+◌, ◌<◌, ◌≤◌, ◌⊎◌, inl, inr, List, [], ◌∷◌, ◌++◌, length, map, take, drop, take-append-drop, Bool, true, false, Contains, All, Some, slice_get, MatchBool, refl, sym, ap, ◌∙◌, subst, arith, append-nil, length-append, add-one}
use Rattle.std.proofs.lemmas.List.{map-append}
use Rattle.std.proofs.lemmas.List.Elements.{All-contains, Contains-push_cases, Contains-push, Contains-append_left}
use Rattle.pad_text.specs.declared.name.Name.{Name}
use Rattle.pad_message.specs.declared.message.Message.{Message}
use Rattle.pad_message.specs.Message.{name_of}
use Rattle.pad_model.specs.declared.base.Base.{Base}
use Rattle.pad_model.specs.Path.{IsLinkedPath, IsLinked, NamesDiffer}
use Rattle.pad_model.specs.Best.{IsBetter}
use Rattle.pad_list.specs.Number.{NoRepeat, IsNumberOf}
use Rattle.pad_model.specs.Choice.{RunsThrough, Choice, Overtakes}
use Rattle.pad_model.specs.Count.{IsKept}
use Rattle.pad_plain.specs.declared.candidate.Candidate.{Candidate}
use Rattle.pad_plain.specs.Inside.Candidate.{names_of}
use Rattle.pad_plain.specs.Inside.Links.{IsCandidate, HasEveryLinked}
use Rattle.pad_plain.specs.Inside.Among.{IsSaidOf}
use Rattle.pad_list.proofs.CallerLemmas.{contains_none, no_repeat_front, number_none, number_same, number_more, contains_map, mapped_from}
use Rattle.pad_plain.proofs.Places.{member_at}

-- it has one of these names, and P holds of it
abbrev pub IsAmong : List Name → (Message → Type 0) → Message → Type 0
IsAmong names P m = Contains names (name_of m) × P m

module _ (b : Base) (R : List Message) (P : Message → Type 0) (d : NamesDiffer R) (inside : (m : Message) → P m → Contains R m) (names : List Name) (n : ℕ) (c : Candidate) (is : IsCandidate b R c) where
  -- the messages with one name more
  last_is : (m : Message) → P m → c.name ≡ name_of m → is.last ≡ m
  last_is m p e = d is.last m (member_at R c.place is.last is.at_place) (inside m p) (sym is.named ∙ e)

  more_names : (m : Message) → Contains names (name_of m) → Contains (names ++ c.name ∷ []) (name_of m)
  more_names m h = Contains-append_left names (c.name ∷ []) (name_of m) h

  pub not_counted : ¬ (P is.last) → IsNumberOf (IsAmong names P) n → IsNumberOf (IsAmong (names ++ c.name ∷ []) P) n
  not_counted none = number_same _ _ n (λ m. (λ h. (more_names m h.0, h.1), λ h. go m h.1 (Contains-push_cases names c.name (name_of m) h.0)))
    where
      go : (m : Message) → P m → Contains names (name_of m) ⊎ (c.name ≡ name_of m) → IsAmong names P m
      go m p (inl h) = (h, p)
      go m p (inr e) = absurd (none (subst P (sym (last_is m p e)) p))

  pub counted : P is.last → ¬ (Contains names c.name) → IsNumberOf (IsAmong names P) n → IsNumberOf (IsAmong (names ++ c.name ∷ []) P) (n + 1)
  counted holds fresh h = number_same _ _ (n + 1) (λ m. (to m, λ k. from m k.1 (Contains-push_cases names c.name (name_of m) k.0))) (number_more (IsAmong names P) n is.last (λ k. fresh (subst (Contains names) (sym is.named) k.0)) h)
    where
      to : (m : Message) → (is.last ≡ m) ⊎ IsAmong names P m → IsAmong (names ++ c.name ∷ []) P m
      to m (inl e) = subst (IsAmong (names ++ c.name ∷ []) P) e (subst (Contains (names ++ c.name ∷ [])) is.named (Contains-push names c.name), holds)
      to m (inr k) = (more_names m k.0, k.1)

      from : (m : Message) → P m → Contains names (name_of m) ⊎ (c.name ≡ name_of m) → (is.last ≡ m) ⊎ IsAmong names P m
      from m p (inl k) = inr (k, p)
      from m p (inr e) = inl (last_is m p e)

-- ---- the names of the first candidates

take_push : {A : Type 0} (xs : List A) (i : ℕ) (x : A) → slice_get xs i ≡ Some x → take (i + 1) xs ≡ take i xs ++ x ∷ []
take_push {A = A} xs i x at = ap (λ k. take k xs) (add-one i) ∙ go xs i at
  where
    same : (y z : A) → Some y ≡ Some z → y ≡ z
    same y z e = cc

    go : (xs : List A) (i : ℕ) → slice_get xs i ≡ Some x → take (suc i) xs ≡ take i xs ++ x ∷ []
    go [] i e = absurd (none e)
      where
        none : slice_get [] i ≡ Some x → ⊥
        none e = cc
    go (y ∷ xs) zero e = ap (λ z. z ∷ []) (same y x e)
    go (y ∷ xs) (suc i) e = ap (λ l. y ∷ l) (go xs i e)

drop_at : {A : Type 0} (xs : List A) (i : ℕ) (x : A) → slice_get xs i ≡ Some x → drop i xs ≡ x ∷ drop (suc i) xs
drop_at [] i x e = absurd (none e)
  where
    none : slice_get [] i ≡ Some x → ⊥
    none e = cc
drop_at {A = A} (y ∷ xs) zero x e = ap (λ z. z ∷ xs) (same y x e)
  where
    same : (y z : A) → Some y ≡ Some z → y ≡ z
    same y z e = cc
drop_at (y ∷ xs) (suc i) x e = drop_at xs i x e

names_push : (cs : List Candidate) (i : ℕ) (c : Candidate) → slice_get cs i ≡ Some c → names_of (take (i + 1) cs) ≡ names_of (take i cs) ++ c.name ∷ []
names_push cs i c at = ap names_of (take_push cs i c at) ∙ map-append (λ c. c.name) (take i cs) (c ∷ [])

-- a name that comes later does not stand among those before
fresh_at : (cs : List Candidate) (i : ℕ) (c : Candidate) → slice_get cs i ≡ Some c → NoRepeat (names_of cs) → ¬ (Contains (names_of (take i cs)) c.name)
fresh_at cs i c at once = no_repeat_front (names_of (take i cs)) c.name (names_of (drop (suc i) cs)) (subst NoRepeat whole once)
  where
    whole : names_of cs ≡ names_of (take i cs) ++ c.name ∷ names_of (drop (suc i) cs)
    whole =
        ap names_of (sym (take-append-drop i cs)) ∙ map-append (λ c. c.name) (take i cs) (drop i cs)
        ∙ ap (λ l. names_of (take i cs) ++ names_of l) (drop_at cs i c at)

take_all : {A : Type 0} (k : ℕ) (xs : List A) → length xs ≤ k → take k xs ≡ xs
take_all zero [] h = refl
take_all zero (x ∷ xs) h = absurd (omega (arith, h))
take_all (suc k) [] h = refl
take_all (suc k) (x ∷ xs) h = ap (λ l. x ∷ l) (take_all k xs (omega (arith, h)))

module _ (b : Base) (R : List Message) (P : Message → Type 0) (d : NamesDiffer R) (inside : (m : Message) → P m → Contains R m) (cs : List Candidate) (each : All (IsCandidate b R) cs) where
  pub count_start : IsNumberOf (IsAmong (names_of (take 0 cs)) P) 0
  count_start = number_none _ (λ m h. contains_none (name_of m) h.0)

  pub count_step : (i n : ℕ) (c : Candidate) (answer : Bool) → slice_get cs i ≡ Some c → NoRepeat (names_of cs) → IsSaidOf R P c answer → IsNumberOf (IsAmong (names_of (take i cs)) P) n → (m : ℕ) → ((answer ≡ true) × (m ≡ n + 1)) ⊎ ((answer ≡ false) × (m ≡ n)) → IsNumberOf (IsAmong (names_of (take (i + 1) cs)) P) m
  count_step i n c answer at once said h m which = subst (λ ns. IsNumberOf (IsAmong ns P) m) (sym (names_push cs i c at)) (go which)
    where
      is : IsCandidate b R c
      is = All-contains (IsCandidate b R) cs c each (member_at cs i c at)

      go : ((answer ≡ true) × (m ≡ n + 1)) ⊎ ((answer ≡ false) × (m ≡ n)) → IsNumberOf (IsAmong (names_of (take i cs) ++ c.name ∷ []) P) m
      go (inl (holds, k)) = subst (IsNumberOf (IsAmong (names_of (take i cs) ++ c.name ∷ []) P)) (sym k) (counted b R P d inside (names_of (take i cs)) n c is (subst (λ t. MatchBool t (P is.last) (¬ (P is.last))) holds (said is.last is.at_place)) (fresh_at cs i c at once) h)
      go (inr (fails, k)) = subst (IsNumberOf (IsAmong (names_of (take i cs) ++ c.name ∷ []) P)) (sym k) (not_counted b R P d inside (names_of (take i cs)) n c is (subst (λ t. MatchBool t (P is.last) (¬ (P is.last))) fails (said is.last is.at_place)) h)

  pub count_end : (i n : ℕ) → length cs ≤ i → HasEveryLinked b R cs → ((m : Message) → P m → IsLinked b R m) → IsNumberOf (IsAmong (names_of (take i cs)) P) n → IsNumberOf P n
  count_end i n all every linked h = number_same (IsAmong (names_of cs) P) P n (λ m. (λ k. k.1, λ p. (named m (every m (linked m p)), p))) (subst (λ l. IsNumberOf (IsAmong (names_of l) P) n) (take_all i cs all) h)
    where
      named : (m : Message) → (c : Candidate) × Contains cs c × (c.name ≡ name_of m) → Contains (names_of cs) (name_of m)
      named m (c, member, e) = subst (Contains (names_of cs)) e (contains_map (λ c. c.name) cs c member)
