-- Names are told apart by their bytes.
use Rattle.std.proofs.Common.{◌≡◌, ◌≢◌, ◌⊎◌, inl, inr, Bool, true, false, is_eq, nat_eq, refl, sym, ap, ◌∙◌, true≢false}
use Rattle.std.specs.Cmp.Lexicographic.{texts_ties, bytes_decides, pointwise}
use Rattle.pad_text.specs.declared.name.Name.{Name}
use Rattle.pad_graph.specs.State.{name_cmp}

pub name_same : (x y : Name) → is_eq (name_cmp x y) ≡ true → x ≡ y
name_same x y h = ap (λ bytes. record { 0 = bytes }) ((bytes_decides x.0 y.0).0 (texts_ties x.0 y.0 ∙ h))

pub name_equal : (x y : Name) → x ≡ y → is_eq (name_cmp x y) ≡ true
name_equal x y e = sym (texts_ties x.0 y.0) ∙ (bytes_decides x.0 y.0).1 (ap (λ n. n.0) e)

pub name_apart : (x y : Name) → is_eq (name_cmp x y) ≡ false → x ≢ y
name_apart x y h e = true≢false (sym (name_equal x y e) ∙ h)

pub name_differs : (x y : Name) → x ≢ y → is_eq (name_cmp x y) ≡ false
name_differs x y n = go (is_eq (name_cmp x y)) refl
  where
    go : (t : Bool) → is_eq (name_cmp x y) ≡ t → is_eq (name_cmp x y) ≡ false
    go true e = absurd (n (name_same x y e))
    go false e = e

pub name_dec : (x y : Name) → (x ≡ y) ⊎ (x ≢ y)
name_dec x y = go (is_eq (name_cmp x y)) refl
  where
    go : (t : Bool) → is_eq (name_cmp x y) ≡ t → (x ≡ y) ⊎ (x ≢ y)
    go true e = inl (name_same x y e)
    go false e = inr (name_apart x y e)

-- what a test of names tells
pub name_yes : (a b : Name) → true ≡ pointwise nat_eq a.0 b.0 → a ≡ b
name_yes a b e = ap (λ bytes. record { 0 = bytes }) ((bytes_decides a.0 b.0).0 (sym e))

pub name_no : (a b : Name) → false ≡ pointwise nat_eq a.0 b.0 → a ≢ b
name_no a b e q = true≢false (sym ((bytes_decides a.0 b.0).1 (ap (λ n. n.0) q)) ∙ sym e)
