-- One entry of the table of messages, changed, and one turn more of the loops over linkings.
use Rattle.std.proofs.Common.{◌≡◌, ◌||◌, List, [], ◌∷◌, ◌++◌, Bool, true, false, cond, Option, Some, None, IsSome, is_eq, refl, sym, ap, ◌∙◌, subst}
use Rattle.std.specs.Option.{option_map}
use Rattle.std.specs.BTreeMap.{BTreeMap, get, WritesThrough, Updates}
use Rattle.pad_text.specs.declared.name.Name.{Name}
use Rattle.pad_graph.specs.declared.linking.Linking.{Linking}
use Rattle.pad_graph.specs.State.{name_cmp}
use Rattle.pad_branch.specs.declared.held.Held.{Held}
use Rattle.pad_chain.specs.Inside.Tables.{is_among, with_mark, AreLetGo, IsMarked, AreMarked}
use Rattle.pad_chain.proofs.Names.{name_same}

some-is : (o : Option Held) (v : Held) → o ≡ Some v → IsSome o
some-is o v e = subst IsSome (sym e) refl

module _ (m n : BTreeMap Name Held) (k : Name) where
  pub mark_wrote : (held : Held) → WritesThrough name_cmp (name_cmp k) m (with_mark held) n → get name_cmp m k ≡ Some held → IsMarked (get name_cmp m) (get name_cmp n) k
  mark_wrote held h e q = (h.3 (some-is (get name_cmp m k) held e)).0 q ∙ go (is_eq (name_cmp k q)) refl
    where
      go : (t : Bool) → is_eq (name_cmp k q) ≡ t → cond t (Some (with_mark held)) (get name_cmp m q) ≡ cond t (option_map with_mark (get name_cmp m q)) (get name_cmp m q)
      go true t = sym (ap (option_map with_mark) (subst (λ x. get name_cmp m x ≡ Some held) (name_same k q t) e))
      go false t = refl

  pub mark_none : n ≡ m → get name_cmp m k ≡ None → IsMarked (get name_cmp m) (get name_cmp n) k
  mark_none h e q = ap (λ x. get name_cmp x q) h ∙ go (is_eq (name_cmp k q)) refl
    where
      at : is_eq (name_cmp k q) ≡ true → get name_cmp m q ≡ None
      at t = subst (λ x. get name_cmp m x ≡ None) (name_same k q t) e

      go : (t : Bool) → is_eq (name_cmp k q) ≡ t → get name_cmp m q ≡ cond t (option_map with_mark (get name_cmp m q)) (get name_cmp m q)
      go true t = at t ∙ sym (ap (option_map with_mark) (at t))
      go false t = refl

or_middle : (a b c : Bool) → a || (b || c) ≡ b || (a || c)
or_middle true true c = refl
or_middle true false c = refl
or_middle false true c = refl
or_middle false false c = refl

among_push : (xs : List Linking) (x : Linking) (q : Name) → is_among (xs ++ x ∷ []) q ≡ is_eq (name_cmp x.name q) || is_among xs q
among_push [] x q = refl
among_push (y ∷ xs) x q = ap (λ t. is_eq (name_cmp y.name q) || t) (among_push xs x q) ∙ or_middle (is_eq (name_cmp y.name q)) (is_eq (name_cmp x.name q)) (is_among xs q)

pub let_go_next : (old : Name → Option Held) (now new : BTreeMap Name Held) (xs : List Linking) (x : Linking) → Updates name_cmp now new x.name None → AreLetGo old (get name_cmp now) xs → AreLetGo old (get name_cmp new) (xs ++ x ∷ [])
let_go_next old now new xs x step before q = step.0 q ∙ go (is_eq (name_cmp x.name q)) (before q) ∙ ap (λ t. cond t None (old q)) (sym (among_push xs x q))
  where
    go : (t : Bool) → get name_cmp now q ≡ cond (is_among xs q) None (old q) → cond t None (get name_cmp now q) ≡ cond (t || is_among xs q) None (old q)
    go true h = refl
    go false h = h

marked_twice : (o : Option Held) → option_map with_mark (option_map with_mark o) ≡ option_map with_mark o
marked_twice None = refl
marked_twice (Some held) = refl

pub marked_next : (old now new : Name → Option Held) (xs : List Linking) (x : Linking) → IsMarked now new x.name → AreMarked old now xs → AreMarked old new (xs ++ x ∷ [])
marked_next old now new xs x step before q =
    step q ∙ ap (λ o. cond (is_eq (name_cmp x.name q)) (option_map with_mark o) o) (before q) ∙ go (is_eq (name_cmp x.name q)) (is_among xs q)
    ∙ ap (λ t. cond t (option_map with_mark (old q)) (old q)) (sym (among_push xs x q))
  where
    go : (t u : Bool) → cond t (option_map with_mark (cond u (option_map with_mark (old q)) (old q))) (cond u (option_map with_mark (old q)) (old q)) ≡ cond (t || u) (option_map with_mark (old q)) (old q)
    go true true = marked_twice (old q)
    go true false = refl
    go false true = refl
    go false false = refl

-- what is held after some were let go was held before
pub let_go_fewer : (old new : Name → Option Held) (xs : List Linking) → AreLetGo old new xs → (q : Name) (held : Held) → new q ≡ Some held → old q ≡ Some held
let_go_fewer old new xs gone q held at = go (is_among xs q) (sym (gone q) ∙ at)
  where
    none_some : None ≡ Some held → ⊥
    none_some e = cc

    go : (t : Bool) → cond t None (old q) ≡ Some held → old q ≡ Some held
    go true e = absurd (none_some e)
    go false e = e
