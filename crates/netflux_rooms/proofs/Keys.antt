-- Taking a key out of a list of distinct keys is a filter.
use Rattle.std.proofs.Common.{◌≡◌, ℕ, Bool, true, false, List, [], ◌∷◌, refl, sym, ap, subst, nat_eq}
use Rattle.std.proofs.lemmas.Bool.{eqb-true}
use Rattle.std.specs.List.{AllByRecursion, IsDistinct}
use Rattle.std.specs.Map.{remove_entry, keys_of}
use Rattle.indexmap.specs.IndexSet.{remove_key}
use Rattle.netflux_rooms.specs.Rooms.{but}
use Rattle.netflux_rooms.specs.Inside.Seats.{without}

pub kept_all : (k : ℕ) (ks : List ℕ) → AllByRecursion (λ y. nat_eq k y ≡ false) ks → but k ks ≡ ks
kept_all k [] h = refl
kept_all k (y ∷ ks) h = rw h.0 (ap (λ l. y ∷ l) (kept_all k ks h.1))

pub but_removed : (k : ℕ) (ks : List ℕ) → IsDistinct nat_eq ks → remove_key (nat_eq k) ks ≡ but k ks
unfolding IsDistinct
but_removed k [] h = refl
but_removed k (x ∷ ks) h = by (nat_eq k x) refl (but_removed k ks h.1)
  where
    by : (b : Bool) → nat_eq k x ≡ b → remove_key (nat_eq k) ks ≡ but k ks → remove_key (nat_eq k) (x ∷ ks) ≡ but k (x ∷ ks)
    by true e again = rw e (sym (kept_all k ks (subst (λ n. AllByRecursion (λ y. nat_eq n y ≡ false) ks) (sym (eqb-true k x e)) h.0)))
    by false e again = rw e (ap (λ l. x ∷ l) again)

module _ {X : Type 0} where
  pub kept_entries : (k : ℕ) (es : List (ℕ × X)) → AllByRecursion (λ y. nat_eq k y ≡ false) (keys_of es) → without k es ≡ es
  kept_entries k [] h = refl
  kept_entries k (y ∷ ks) h = rw h.0 (ap (λ l. y ∷ l) (kept_entries k ks h.1))

  pub entries_removed : (k : ℕ) (es : List (ℕ × X)) → IsDistinct nat_eq (keys_of es) → remove_entry (nat_eq k) es ≡ without k es
  unfolding IsDistinct
  entries_removed k [] h = refl
  entries_removed k (x ∷ es) h = by (nat_eq k x.0) refl (entries_removed k es h.1)
    where
      by : (b : Bool) → nat_eq k x.0 ≡ b → remove_entry (nat_eq k) es ≡ without k es → remove_entry (nat_eq k) (x ∷ es) ≡ without k (x ∷ es)
      by true e again = rw e (sym (kept_entries k es (subst (λ n. AllByRecursion (λ y. nat_eq n y ≡ false) (keys_of es)) (sym (eqb-true k x.0 e)) h.0)))
      by false e again = rw e (ap (λ l. x ∷ l) again)
