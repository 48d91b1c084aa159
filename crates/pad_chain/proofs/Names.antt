-- Names are told apart by their bytes.
use Rattle.std.proofs.Common.{◌≡◌, ◌≢◌, ◌⊎◌, inl, inr, Bool, true, false, is_eq, refl, sym, ap, ◌∙◌, true≢false}
use Rattle.std.specs.Cmp.Lexicographic.{texts_ties, bytes_decides}
use Rattle.pad_text.specs.declared.name.Name.{Name}
use Rattle.pad_graph.specs.State.{name_cmp}

pub name_same : (x y : Name) → is_eq (name_cmp x y) ≡ true → x ≡ y
name_same x y h = ap (λ bytes. record { 0 = bytes }) ((bytes_decides x.0 y.0).0 (texts_ties x.0 y.0 ∙ h))

pub name_dec : (x y : Name) → (x ≡ y) ⊎ (x ≢ y)
name_dec x y = go (is_eq (name_cmp x y)) refl
  where
    go : (t : Bool) → is_eq (name_cmp x y) ≡ t → (x ≡ y) ⊎ (x ≢ y)
    go true e = inl (name_same x y e)
    go false e = inr (λ same. true≢false (sym (sym (texts_ties x.0 y.0) ∙ (bytes_decides x.0 y.0).1 (ap (λ n. n.0) same)) ∙ e))

pub name_equal : (x y : Name) → x ≡ y → is_eq (name_cmp x y) ≡ true
name_equal x y e = sym (texts_ties x.0 y.0) ∙ (bytes_decides x.0 y.0).1 (ap (λ n. n.0) e)
