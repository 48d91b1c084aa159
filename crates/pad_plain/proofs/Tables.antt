-- The names of messages, and the table of their first places.
use Rattle.std.proofs.Common.{◌≡◌, ◌≢◌, ℕ, ◌<◌, ◌⊎◌, inl, inr, List, [], ◌∷◌, ◌++◌, length, map, Bool, true, false, cond, Option, Some, None, slice_get, Contains, IsSome, is_some, is_eq, refl, sym, ap, ap₂, ◌∙◌, subst, arith, true≢false}
use Rattle.std.specs.BTreeMap.{BTreeMap, get}
use Rattle.std.specs.Cmp.Lexicographic.{texts_ties, bytes_decides}
use Rattle.std.specs.Option.{option_to_list}
use Rattle.std.proofs.lemmas.List.{same_from_push, map-append}
use Rattle.std.proofs.lemmas.List.Elements.{Contains-push_cases}
use Rattle.std.proofs.lemmas.Option.{slice_get_within}
use Rattle.pad_text.specs.declared.name.Name.{Name}
use Rattle.pad_message.specs.declared.message.Message.{Message}
use Rattle.pad_message.specs.Message.{name_of}
use Rattle.pad_plain.specs.Messages.{IsNewAt, IsPlaceOf}
use Rattle.pad_plain.specs.Inside.Table.{name_cmp, IsTableOf}
use Rattle.pad_plain.proofs.Places.{member_at, pushed_cases, get_front}

pub name_same : (x y : Name) → is_eq (name_cmp x y) ≡ true → x ≡ y
name_same x y h = ap (λ bytes. record { 0 = bytes }) ((bytes_decides x.0 y.0).0 (texts_ties x.0 y.0 ∙ h))

name_apart : (x y : Name) → is_eq (name_cmp x y) ≡ false → x ≢ y
name_apart x y h e = true≢false (sym ((bytes_decides x.0 y.0).1 (ap (λ n. n.0) e)) ∙ texts_ties x.0 y.0 ∙ h)

get_last : {A : Type 0} (xs : List A) (x : A) → slice_get (xs ++ x ∷ []) (length xs) ≡ Some x
get_last [] x = refl
get_last (y ∷ xs) x = get_last xs x

-- what was new at a place is so with one message more behind it
new_more : (R : List Message) (m : Message) (place : ℕ) (q : Name) → place < length R → IsNewAt R place q → IsNewAt (R ++ m ∷ []) place q
new_more R m place q within new earlier other less at = go (pushed_cases R m earlier other at)
  where
    go : (slice_get R earlier ≡ Some other) ⊎ ((earlier ≡ length R) × (m ≡ other)) → name_of other ≢ q
    go (inl h) = new earlier other less h
    go (inr h) = absurd (omega (arith, h.0, less, within))

kept_place : (R : List Message) (m : Message) (q : Name) (found : Option ℕ) → IsPlaceOf R q found → (found ≡ None → name_of m ≢ q) → IsPlaceOf (R ++ m ∷ []) q found
kept_place R m q None h apart = λ x c. which x (Contains-push_cases R m x c)
  where
    which : (x : Message) → Contains R x ⊎ (m ≡ x) → name_of x ≢ q
    which x (inl k) = h x k
    which x (inr s) = λ w. apart refl (ap name_of s ∙ w)
kept_place R m q (Some place) h apart = (h.0, get_front R (m ∷ []) place h.0 h.1, h.2, new_more R m place q (slice_get_within R place h.0 h.1) h.3)

-- a message whose name is in the table
pub table_kept : (R : List Message) (m : Message) (places : BTreeMap Name ℕ) → IsTableOf R places → is_some (get name_cmp places (name_of m)) ≡ true → IsTableOf (R ++ m ∷ []) places
table_kept R m places table has q = kept_place R m q (get name_cmp places q) (table q) apart
  where
    apart : get name_cmp places q ≡ None → name_of m ≢ q
    apart none e = true≢false (sym has ∙ ap is_some (subst (λ w. get name_cmp places w ≡ None) (sym e) none))

-- a message whose name is not in the table, and its place in it
pub table_new : (R : List Message) (m : Message) (places : BTreeMap Name ℕ) (n : ℕ) (q : Name) → n ≡ length R → IsTableOf R places → is_some (get name_cmp places (name_of m)) ≡ false → IsPlaceOf (R ++ m ∷ []) q (cond (is_eq (name_cmp (name_of m) q)) (Some n) (get name_cmp places q))
table_new R m places n q e table missing = go (is_eq (name_cmp (name_of m) q)) refl
  where
    unknown : (found : Option ℕ) → is_some found ≡ false → IsPlaceOf R (name_of m) found → (x : Message) → Contains R x → name_of x ≢ name_of m
    unknown None h none = none
    unknown (Some place) h some = absurd (true≢false h)

    none : (x : Message) → Contains R x → name_of x ≢ name_of m
    none = unknown (get name_cmp places (name_of m)) missing (table (name_of m))

    at_last : IsPlaceOf (R ++ m ∷ []) (name_of m) (Some n)
    at_last = (m, subst (λ k. slice_get (R ++ m ∷ []) k ≡ Some m) (sym e) (get_last R m), refl, λ earlier other less at. new earlier other less (pushed_cases R m earlier other at))
      where
        new : (earlier : ℕ) (other : Message) → earlier < n → (slice_get R earlier ≡ Some other) ⊎ ((earlier ≡ length R) × (m ≡ other)) → name_of other ≢ name_of m
        new earlier other less (inl h) = none other (member_at R earlier other h)
        new earlier other less (inr h) = absurd (omega (arith, h.0, less, e))

    go : (t : Bool) → is_eq (name_cmp (name_of m) q) ≡ t → IsPlaceOf (R ++ m ∷ []) q (cond t (Some n) (get name_cmp places q))
    go true t = subst (λ w. IsPlaceOf (R ++ m ∷ []) w (Some n)) (name_same (name_of m) q t) at_last
    go false t = kept_place R m q (get name_cmp places q) (table q) (λ h. name_apart (name_of m) q t)

-- one name more
pub named_more : (items more : List Message) (names longer : List Name) (m : Message) (n : Name) → names ≡ map name_of items → n ≡ name_of m → more ≡ items ++ m ∷ [] → longer ≡ names ++ n ∷ [] → longer ≡ map name_of more
named_more items more names longer m n named e f g =
    g ∙ ap₂ (λ x y. x ++ y ∷ []) named e ∙ sym (map-append name_of items (m ∷ [])) ∙ ap (map name_of) (sym f)

-- what was pushed last is what a pop takes
pub popped : {A : Type 0} (xs ys : List A) (m : A) (r : Option A) → xs ++ m ∷ [] ≡ ys ++ option_to_list r → IsSome r → ys ≡ xs
popped xs ys m None e h = cc
popped xs ys m (Some x) e h = sym (same_from_push xs ys m x e).0
