-- One turn more of the loops over linkings and names.
use Rattle.std.proofs.Common.{◌≡◌, ◌||◌, ℕ, List, [], ◌∷◌, ◌++◌, Bool, true, false, cond, Option, None, is_eq, refl, sym, ap, ◌∙◌, append_assoc}
use Rattle.std.specs.Option.{option_map}
use Rattle.std.specs.declared.vec.Vec.{Vec}
use Rattle.std.specs.BTreeMap.{BTreeMap, get, Updates}
use Rattle.pad_text.specs.declared.name.Name.{Name}
use Rattle.pad_graph.specs.declared.linking.Linking.{Linking}
use Rattle.pad_graph.specs.declared.node.Node.{Node}
use Rattle.pad_graph.specs.declared.node.Mark.{Mark}
use Rattle.pad_graph.specs.Inside.Tables.{names_in, marked, with_standing, is_among, AreMarked}
use Rattle.pad_graph.specs.Inside.Hanging.{linkings_of}
use Rattle.pad_graph.specs.State.{name_cmp, marked_as}

pub marked_push : (mark : Mark) (old : Name → Option Node) (xs : List Linking) (x : Linking) (q : Name) → marked mark old (xs ++ x ∷ []) q ≡ cond (is_eq (name_cmp x.name q)) (option_map (with_standing (marked_as mark x.height)) (marked mark old xs q)) (marked mark old xs q)
marked_push mark old [] x q = refl
marked_push mark old (y ∷ xs) x q = marked_push mark (λ name. cond (is_eq (name_cmp y.name name)) (option_map (with_standing (marked_as mark y.height)) (old name)) (old name)) xs x q

pub marked_next : (mark : Mark) (old now new : Name → Option Node) (xs : List Linking) (x : Linking) → AreMarked now new x mark → ((q : Name) → now q ≡ marked mark old xs q) → (q : Name) → new q ≡ marked mark old (xs ++ x ∷ []) q
marked_next mark old now new xs x step before q =
    step q ∙ ap (λ o. cond (is_eq (name_cmp x.name q)) (option_map (with_standing (marked_as mark x.height)) o) o) (before q) ∙ sym (marked_push mark old xs x q)

or_middle : (a b c : Bool) → a || (b || c) ≡ b || (a || c)
or_middle true true c = refl
or_middle true false c = refl
or_middle false true c = refl
or_middle false false c = refl

pub among_push : (xs : List Linking) (x : Linking) (q : Name) → is_among (xs ++ x ∷ []) q ≡ is_eq (name_cmp x.name q) || is_among xs q
among_push [] x q = refl
among_push (y ∷ xs) x q = ap (λ t. is_eq (name_cmp y.name q) || t) (among_push xs x q) ∙ or_middle (is_eq (name_cmp y.name q)) (is_eq (name_cmp x.name q)) (is_among xs q)

pub forgot_next : {A : Type 0} (old now new : BTreeMap Name (Vec Name A)) (xs : List Linking) (x : Linking) → Updates name_cmp now new x.name None → ((q : Name) → names_in (get name_cmp now q) ≡ cond (is_among xs q) [] (names_in (get name_cmp old q))) → (q : Name) → names_in (get name_cmp new q) ≡ cond (is_among (xs ++ x ∷ []) q) [] (names_in (get name_cmp old q))
forgot_next old now new xs x step before q =
    ap names_in (step.0 q) ∙ go (is_eq (name_cmp x.name q)) (before q) ∙ ap (λ t. cond t [] (names_in (get name_cmp old q))) (sym (among_push xs x q))
  where
    go : (t : Bool) → names_in (get name_cmp now q) ≡ cond (is_among xs q) [] (names_in (get name_cmp old q)) → names_in (cond t None (get name_cmp now q)) ≡ cond (t || is_among xs q) [] (names_in (get name_cmp old q))
    go true h = refl
    go false h = h

-- a linking of the name, if it is not `stop`
abbrev unless : Name → ℕ → Name → Bool → List Linking
unless stop height n true = []
unless stop height n false = record { height = height; name = n } ∷ []

linkings_push : (stop : Name) (height : ℕ) (ns : List Name) (n : Name) → linkings_of stop height (ns ++ n ∷ []) ≡ linkings_of stop height ns ++ unless stop height n (is_eq (name_cmp n stop))
linkings_push stop height [] n = go (is_eq (name_cmp n stop))
  where
    go : (t : Bool) → cond {A = List Linking} t [] (record { height = height; name = n } ∷ []) ≡ unless stop height n t
    go true = refl
    go false = refl
linkings_push stop height (m ∷ ns) n = go (is_eq (name_cmp m stop)) (linkings_push stop height ns n)
  where
    one : Linking
    one = record { height = height; name = m }

    go : (t : Bool) → linkings_of stop height (ns ++ n ∷ []) ≡ linkings_of stop height ns ++ unless stop height n (is_eq (name_cmp n stop)) → cond {A = List Linking} t (linkings_of stop height (ns ++ n ∷ [])) (one ∷ linkings_of stop height (ns ++ n ∷ [])) ≡ cond {A = List Linking} t (linkings_of stop height ns) (one ∷ linkings_of stop height ns) ++ unless stop height n (is_eq (name_cmp n stop))
    go true h = h
    go false h = ap (λ (ls : List Linking). one ∷ ls) h

append_empty : {A : Type 0} (xs : List A) → xs ++ [] ≡ xs
append_empty [] = refl
append_empty (x ∷ xs) = ap (λ ys. x ∷ ys) (append_empty xs)

module _ (stop : Name) (height : ℕ) (before found : List Linking) (ns : List Name) (n : Name) (h : found ≡ before ++ linkings_of stop height ns) where
  pub names_skip : is_eq (name_cmp n stop) ≡ true → found ≡ before ++ linkings_of stop height (ns ++ n ∷ [])
  names_skip e = h ∙ ap (λ (ls : List Linking). before ++ ls) (sym (linkings_push stop height ns n ∙ ap (λ t. linkings_of stop height ns ++ unless stop height n t) e ∙ append_empty (linkings_of stop height ns)))

  pub names_add : (new : List Linking) → is_eq (name_cmp n stop) ≡ false → new ≡ found ++ record { height = height; name = n } ∷ [] → new ≡ before ++ linkings_of stop height (ns ++ n ∷ [])
  names_add new e is =
      is ∙ ap (λ (ls : List Linking). ls ++ record { height = height; name = n } ∷ []) h ∙ append_assoc before (linkings_of stop height ns) (record { height = height; name = n } ∷ [])
      ∙ ap (λ (ls : List Linking). before ++ ls) (sym (linkings_push stop height ns n ∙ ap (λ t. linkings_of stop height ns ++ unless stop height n t) e))
