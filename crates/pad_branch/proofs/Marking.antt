-- Names doomed one after another.
use Rattle.std.proofs.Common.{Option, ◌≡◌, ◌⊎◌, inl, inr, List, [], ◌∷◌, ◌++◌, Contains, Bool, true, false, ◌||◌, cond, is_eq, refl, sym, ap, ◌∙◌, subst}
use Rattle.std.specs.Cmp.Lexicographic.{texts_ties, bytes_decides}
use Rattle.std.specs.BTreeSet.{BTreeSet, contains, Updates}
use Rattle.std.proofs.lemmas.List.Elements.{Contains-push_cases}
use Rattle.pad_text.specs.declared.name.Name.{Name}
use Rattle.pad_branch.specs.declared.held.Held.{Held}
use Rattle.pad_graph.specs.State.{name_cmp}
use Rattle.pad_branch.specs.Held.{mark_of}
use Rattle.pad_branch.specs.Pathless.{pathless_in}
use Rattle.pad_branch.specs.Inside.Passing.{MarksNames}
use Rattle.pad_list.proofs.CallerLemmas.{contains_head, contains_more, contains_cases, contains_none}

pub name_same : (x y : Name) → is_eq (name_cmp x y) ≡ true → x ≡ y
name_same x y h = ap (λ bytes. record { 0 = bytes }) ((bytes_decides x.0 y.0).0 (texts_ties x.0 y.0 ∙ h))

pub at_front : {A : Type 0} (xs ys : List A) (x : A) → Contains xs x → Contains (xs ++ ys) x
at_front [] ys x h = absurd (contains_none x h)
at_front {A = A} (y ∷ xs) ys x h = go (contains_cases y xs x h) (at_front xs ys x)
  where
    go : (y ≡ x) ⊎ Contains xs x → (Contains xs x → Contains (xs ++ ys) x) → Contains (y ∷ (xs ++ ys)) x
    go (inl e) rest = subst (Contains (y ∷ (xs ++ ys))) e (contains_head y (xs ++ ys))
    go (inr c) rest = contains_more y (xs ++ ys) x (rest c)

pub at_last : {A : Type 0} (xs : List A) (x : A) → Contains (xs ++ x ∷ []) x
at_last [] x = contains_head x []
at_last (y ∷ xs) x = contains_more y (xs ++ x ∷ []) x (at_last xs x)

or_right : (t s : Bool) → s ≡ true → t || s ≡ true
or_right true s e = refl
or_right false s e = e

module _ (table : Name → Option Held) (old new : BTreeSet Name) (k : Name) (u : Updates name_cmp old new k true) where
  pub here : pathless_in table new k ≡ true
  here = or_right (mark_of (table k)) (contains name_cmp new k) u.1

  pub still : (n : Name) → pathless_in table old n ≡ true → pathless_in table new n ≡ true
  still n h = go (mark_of (table n)) (contains name_cmp old n) (is_eq (name_cmp k n)) (contains name_cmp new n) (u.0 n) h
    where
      go : (t a e c : Bool) → c ≡ cond e true a → t || a ≡ true → t || c ≡ true
      go true a e c is h = refl
      go false a true c is h = is
      go false a false c is h = is ∙ h

  pub only_one : (n : Name) → pathless_in table new n ≡ true → (pathless_in table old n ≡ true) ⊎ (k ≡ n)
  only_one n h = go (is_eq (name_cmp k n)) refl
    where
      go : (e : Bool) → is_eq (name_cmp k n) ≡ e → (pathless_in table old n ≡ true) ⊎ (k ≡ n)
      go true e = inr (name_same k n e)
      go false e = inl (ap (λ c. mark_of (table n) || c) (sym (u.2 n e)) ∙ h)

module _ (table : Name → Option Held) (names : List Name) (old now : BTreeSet Name) (level next : List Name) (d : MarksNames table names old level now next) (k : Name) where
  either : (n : Name) → Contains (names ++ k ∷ []) n → Contains names n ⊎ (k ≡ n)
  either n c = Contains-push_cases names k n c

  -- one name more, which was pathless already
  pub marked_already : pathless_in table now k ≡ true → MarksNames table (names ++ k ∷ []) old level now next
  marked_already e = record {
    still = d.still;
    every = λ n c. every n (either n c);
    only = λ n h. only n (d.only n h);
    kept = d.kept;
    added = λ n c. added n (d.added n c);
  }
    where
      every : (n : Name) → Contains names n ⊎ (k ≡ n) → pathless_in table now n ≡ true
      every n (inl c) = d.every n c
      every n (inr s) = subst (λ x. pathless_in table now x ≡ true) s e

      only : (n : Name) → (pathless_in table old n ≡ true) ⊎ (Contains names n × Contains next n) → (pathless_in table old n ≡ true) ⊎ (Contains (names ++ k ∷ []) n × Contains next n)
      only n (inl h) = inl h
      only n (inr (c, l)) = inr (at_front names (k ∷ []) n c, l)

      added : (n : Name) → Contains level n ⊎ (Contains names n × (pathless_in table now n ≡ true)) → Contains level n ⊎ (Contains (names ++ k ∷ []) n × (pathless_in table now n ≡ true))
      added n (inl h) = inl h
      added n (inr (c, l)) = inr (at_front names (k ∷ []) n c, l)

  -- one name more
  pub newly_marked : (new : BTreeSet Name) (more : List Name) → Updates name_cmp now new k true → more ≡ next ++ k ∷ [] → MarksNames table (names ++ k ∷ []) old level new more
  newly_marked new more u e = record {
    still = λ n h. still table now new k u n (d.still n h);
    every = λ n c. every n (either n c);
    only = λ n h. only n (only_one table now new k u n h);
    kept = λ n c. to_more n (d.kept n c);
    added = λ n c. added n (Contains-push_cases next k n (subst (λ ns. Contains ns n) e c));
  }
    where
      to_more : (n : Name) → Contains next n → Contains more n
      to_more n c = subst (λ ns. Contains ns n) (sym e) (at_front next (k ∷ []) n c)

      k_in_more : Contains more k
      k_in_more = subst (λ ns. Contains ns k) (sym e) (at_last next k)

      every : (n : Name) → Contains names n ⊎ (k ≡ n) → pathless_in table new n ≡ true
      every n (inl c) = still table now new k u n (d.every n c)
      every n (inr s) = subst (λ x. pathless_in table new x ≡ true) s (here table now new k u)

      lift : (n : Name) → (pathless_in table old n ≡ true) ⊎ (Contains names n × Contains next n) → (pathless_in table old n ≡ true) ⊎ (Contains (names ++ k ∷ []) n × Contains more n)
      lift n (inl h) = inl h
      lift n (inr (c, l)) = inr (at_front names (k ∷ []) n c, to_more n l)

      only : (n : Name) → (pathless_in table now n ≡ true) ⊎ (k ≡ n) → (pathless_in table old n ≡ true) ⊎ (Contains (names ++ k ∷ []) n × Contains more n)
      only n (inl h) = lift n (d.only n h)
      only n (inr s) = inr (subst (Contains (names ++ k ∷ [])) s (at_last names k), subst (Contains more) s k_in_more)

      added : (n : Name) → Contains next n ⊎ (k ≡ n) → Contains level n ⊎ (Contains (names ++ k ∷ []) n × (pathless_in table new n ≡ true))
      added n (inl c) = go (d.added n c)
        where
          go : Contains level n ⊎ (Contains names n × (pathless_in table now n ≡ true)) → Contains level n ⊎ (Contains (names ++ k ∷ []) n × (pathless_in table new n ≡ true))
          go (inl h) = inl h
          go (inr (m, h)) = inr (at_front names (k ∷ []) n m, still table now new k u n h)
      added n (inr s) = inr (subst (Contains (names ++ k ∷ [])) s (at_last names k), subst (λ x. pathless_in table new x ≡ true) s (here table now new k u))
