-- Keys are told apart by their bytes.
use Rattle.std.proofs.Common.{◌≡◌, Bool, true, false, cond, Option, Some, None, is_eq, bytes_eq, if◌then◌else◌, refl, sym, ap, ◌∙◌, subst, ℕ}
use Rattle.std.specs.Cmp.Lexicographic.{texts_ties, bytes_decides}
use Rattle.std.specs.BTreeMap.{BTreeMap, get, Updates}
use Rattle.std.specs.Option.{option_or, is_some}
use Rattle.pad_text.specs.declared.name.Name.{Name}
use Rattle.keeper_entry.specs.Index.{key_cmp}

key_same : (key other : Name) → is_eq (key_cmp key other) ≡ true → key ≡ other
key_same key other e = ap (λ bytes. record { 0 = bytes }) ((bytes_decides key.0 other.0).0 (texts_ties key.0 other.0 ∙ e))

or_none : (found : Option ℕ) → option_or found None ≡ found
or_none None = refl
or_none (Some index) = refl

pub no_value : (found : Option ℕ) → is_some found ≡ false → found ≡ None
no_value None e = refl
no_value (Some index) e = cc

-- a new key was put into a table
pub noted : (old new : BTreeMap Name ℕ) (key : Name) (index : ℕ) → get key_cmp old key ≡ None → Updates key_cmp old new key (Some index)
    → (other : Name) → get key_cmp new other ≡ option_or (get key_cmp old other) (if bytes_eq key.0 other.0 then Some index else None)
noted old new key index none updates other = updates.0 other ∙ go (is_eq (key_cmp key other)) refl
  where
    go : (same : Bool) → is_eq (key_cmp key other) ≡ same
        → cond same (Some index) (get key_cmp old other) ≡ option_or (get key_cmp old other) (if bytes_eq key.0 other.0 then Some index else None)
    go true e =
        let here : get key_cmp old other ≡ None = subst (λ (k : Name). get key_cmp old k ≡ None) (key_same key other e) none in
        let equal : bytes_eq key.0 other.0 ≡ true = texts_ties key.0 other.0 ∙ e in
        rw (here, equal) refl
    go false e = let differs : bytes_eq key.0 other.0 ≡ false = texts_ties key.0 other.0 ∙ e in rw differs (sym (or_none (get key_cmp old other)))
