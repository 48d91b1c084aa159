-- One entry of a table, changed.
use Rattle.std.proofs.Common.{◌≡◌, ◌≢◌, ◌<◌, List, [], ◌∷◌, ◌++◌, length, Bool, true, false, cond, Option, Some, None, IsSome, is_eq, refl, sym, ap, ◌∙◌, subst, arith, length-append}
use Rattle.std.specs.Option.{option_map, option_to_list}
use Rattle.std.specs.declared.vec.Vec.{Vec}
use Rattle.std.specs.BTreeMap.{BTreeMap, get, WritesThrough, Updates}
use Rattle.std.proofs.lemmas.List.{same_from_push}
use Rattle.pad_text.specs.declared.name.Name.{Name}
use Rattle.pad_graph.specs.declared.node.Node.{Node}
use Rattle.pad_graph.specs.declared.standing.Standing.{Standing}
use Rattle.pad_graph.specs.Inside.Tables.{names_in, HasChild, HasSameNames, with_standing}
use Rattle.pad_graph.proofs.Names.{name_same}
use Rattle.pad_graph.specs.State.{name_cmp}

some-is : {X : Type 0} (o : Option X) (v : X) → o ≡ Some v → IsSome o
some-is o v e = subst IsSome (sym e) refl

-- what was written through a loan
pub wrote : {X : Type 0} (m n : BTreeMap Name X) (k : Name) (w v : X) → WritesThrough name_cmp (name_cmp k) m w n → get name_cmp m k ≡ Some v → (q : Name) → get name_cmp n q ≡ cond (is_eq (name_cmp k q)) (Some w) (get name_cmp m q)
wrote m n k w v h e q = (h.3 (some-is (get name_cmp m k) v e)).0 q

-- no value, where there is no entry
pub none_if : {X : Type 0} (o : Option X) → ((x : X) → o ≢ Some x) → o ≡ None
none_if None h = refl
none_if (Some x) h = absurd (h x refl)

-- names at equal keys
at_key : {X : Type 0} (m : BTreeMap Name X) (k q : Name) (v : X) → get name_cmp m k ≡ Some v → is_eq (name_cmp k q) ≡ true → get name_cmp m q ≡ Some v
at_key m k q v e t = subst (λ x. get name_cmp m x ≡ Some v) (name_same k q t) e

pub mark_wrote : (m n : BTreeMap Name Node) (k : Name) (node : Node) (s : Standing) → WritesThrough name_cmp (name_cmp k) m (record { parent = node.parent; standing = s }) n → get name_cmp m k ≡ Some node → (q : Name) → get name_cmp n q ≡ cond (is_eq (name_cmp k q)) (option_map (with_standing s) (get name_cmp m q)) (get name_cmp m q)
mark_wrote m n k node s h e q = wrote m n k (record { parent = node.parent; standing = s }) node h e q ∙ go (is_eq (name_cmp k q)) refl
  where
    go : (t : Bool) → is_eq (name_cmp k q) ≡ t → cond t (Some (record { parent = node.parent; standing = s })) (get name_cmp m q) ≡ cond t (option_map (with_standing s) (get name_cmp m q)) (get name_cmp m q)
    go true t = sym (ap (option_map (with_standing s)) (at_key m k q node e t))
    go false t = refl

pub mark_none : (m n : BTreeMap Name Node) (k : Name) (s : Standing) → n ≡ m → get name_cmp m k ≡ None → (q : Name) → get name_cmp n q ≡ cond (is_eq (name_cmp k q)) (option_map (with_standing s) (get name_cmp m q)) (get name_cmp m q)
mark_none m n k s h e q = ap (λ x. get name_cmp x q) h ∙ go (is_eq (name_cmp k q)) refl
  where
    at : is_eq (name_cmp k q) ≡ true → get name_cmp m q ≡ None
    at t = subst (λ x. get name_cmp m x ≡ None) (name_same k q t) e

    go : (t : Bool) → is_eq (name_cmp k q) ≡ t → get name_cmp m q ≡ cond t (option_map (with_standing s) (get name_cmp m q)) (get name_cmp m q)
    go true t = at t ∙ sym (ap (option_map (with_standing s)) (at t))
    go false t = refl

module _ {A : Type 0} (m n : BTreeMap Name (Vec Name A)) (k name : Name) where
  pub child_wrote : (w v : Vec Name A) → WritesThrough name_cmp (name_cmp k) m w n → get name_cmp m k ≡ Some v → w.items ≡ v.items ++ name ∷ [] → HasChild m n k name
  child_wrote w v h e more q = ap names_in (wrote m n k w v h e q) ∙ go (is_eq (name_cmp k q)) refl
    where
      go : (t : Bool) → is_eq (name_cmp k q) ≡ t → names_in (cond t (Some w) (get name_cmp m q)) ≡ cond t (names_in (get name_cmp m q) ++ name ∷ []) (names_in (get name_cmp m q))
      go true t = more ∙ ap (λ o. names_in o ++ name ∷ []) (sym (at_key m k q v e t))
      go false t = refl

  pub same_wrote : (w v : Vec Name A) → WritesThrough name_cmp (name_cmp k) m w n → get name_cmp m k ≡ Some v → w.items ≡ v.items → HasSameNames m n
  same_wrote w v h e same q = ap names_in (wrote m n k w v h e q) ∙ go (is_eq (name_cmp k q)) refl
    where
      go : (t : Bool) → is_eq (name_cmp k q) ≡ t → names_in (cond t (Some w) (get name_cmp m q)) ≡ names_in (get name_cmp m q)
      go true t = same ∙ ap names_in (sym (at_key m k q v e t))
      go false t = refl

  -- no names stand at k
  pub lost_none : (before : List Name) → get name_cmp m k ≡ None → names_in (get name_cmp m k) ≡ before ++ name ∷ [] → HasChild n m k name
  lost_none before e whole = absurd (empty before (ap names_in (sym e) ∙ whole))
    where
      empty : (before : List Name) → [] ≡ before ++ name ∷ [] → ⊥
      empty [] e = cc
      empty (x ∷ xs) e = cc

  pub child_put : (v : Vec Name A) → Updates name_cmp m n k (Some v) → v.items ≡ name ∷ [] → get name_cmp m k ≡ None → HasChild m n k name
  child_put v u new e q = ap names_in (u.0 q) ∙ go (is_eq (name_cmp k q)) refl
    where
      at : is_eq (name_cmp k q) ≡ true → get name_cmp m q ≡ None
      at t = subst (λ x. get name_cmp m x ≡ None) (name_same k q t) e

      go : (t : Bool) → is_eq (name_cmp k q) ≡ t → names_in (cond t (Some v) (get name_cmp m q)) ≡ cond t (names_in (get name_cmp m q) ++ name ∷ []) (names_in (get name_cmp m q))
      go true t = new ∙ ap (λ o. names_in o ++ name ∷ []) (sym (at t))
      go false t = refl

  -- n is m without the last name at k
  pub child_lost : (w v : Vec Name A) (before : List Name) → WritesThrough name_cmp (name_cmp k) m w n → get name_cmp m k ≡ Some v → w.items ≡ before → names_in (get name_cmp m k) ≡ before ++ name ∷ [] → HasChild n m k name
  child_lost w v before h e less whole q = sym (ap (λ x. cond (is_eq (name_cmp k q)) (x ++ name ∷ []) x) (ap names_in (wrote m n k w v h e q)) ∙ go (is_eq (name_cmp k q)) refl)
    where
      go : (t : Bool) → is_eq (name_cmp k q) ≡ t → cond t (names_in (cond t (Some w) (get name_cmp m q)) ++ name ∷ []) (names_in (cond t (Some w) (get name_cmp m q))) ≡ names_in (get name_cmp m q)
      go true t = ap (λ x. x ++ name ∷ []) less ∙ sym whole ∙ ap (λ x. names_in (get name_cmp m x)) (name_same k q t)
      go false t = refl

-- what was pushed last is what a pop takes
pub popped : {A Z : Type 0} (v w : Vec A Z) (before : List A) (m : A) (r : Option A) → v.items ≡ before ++ m ∷ [] → v.items ≡ w.items ++ option_to_list r → (0 < v.len → IsSome r) → w.items ≡ before
popped {A = A} v w before m r e h some = go r (sym e ∙ h) (some (omega (arith, v.ok.0, ap length e, length-append before (m ∷ []))))
  where
    go : (r : Option A) → before ++ m ∷ [] ≡ w.items ++ option_to_list r → IsSome r → w.items ≡ before
    go None e h = cc
    go (Some x) e h = sym (same_from_push before w.items m x e).0

-- what was put in and taken out again
pub put_back : {X : Type 0} (m n o : BTreeMap Name X) (k : Name) (v : X) → Updates name_cmp m n k (Some v) → Updates name_cmp n o k None → get name_cmp m k ≡ None → (q : Name) → get name_cmp o q ≡ get name_cmp m q
put_back m n o k v u w e q = w.0 q ∙ go (is_eq (name_cmp k q)) refl (u.2 q)
  where
    go : (t : Bool) → is_eq (name_cmp k q) ≡ t → (is_eq (name_cmp k q) ≡ false → get name_cmp n q ≡ get name_cmp m q) → cond t None (get name_cmp n q) ≡ get name_cmp m q
    go true t h = sym e ∙ ap (get name_cmp m) (name_same k q t)
    go false t h = h t
