-- What the ordered maps have at a key, by the test of the key's digits.
use Rattle.std.proofs.Common.{◌≡◌, ℕ, Bool, false, List, [], ◌∷◌, Option, Some, None, refl, sym, ap, ◌∙◌, cond, bytes_eq}
use Rattle.std.specs.Ordering.{is_eq}
use Rattle.std.specs.Map.{lookup}
use Rattle.std.specs.BTreeMap.{is_at, get_by, BTreeMap, UpdatesBy}
use Rattle.std.specs.Option.{unwrap_or, is_some}
use Rattle.std.proofs.lemmas.Bool.{true≢false}
use Rattle.std.proofs.lemmas.Map.Text.{is_eq-slice_cmp}
use Rattle.netflux_rooms.specs.contracts.key.KeyOrd.TheImpl as order
use Rattle.netflux_rooms.specs.Tables.{members_at, names_at}

pub lookup_agree : {K X : Type 0} (p q : K → Bool) → ((k : K) → p k ≡ q k) → (es : List (K × X)) → lookup p es ≡ lookup q es
lookup_agree p q h [] = refl
lookup_agree p q h (e ∷ es) = rw (h e.0) (ap (λ o. cond (q e.0) (Some e.1) o) (lookup_agree p q h es))

-- a key is equal to another by the digits of what it is of
pub key_is : (k c : List ℕ) → k ≡ c → (d : List ℕ) → is_eq (order.cmp-value.it k d) ≡ bytes_eq c d
key_is k c e d = is_eq-slice_cmp k d ∙ ap (λ x. bytes_eq x d) e

pub members_are : (k c : List ℕ) → k ≡ c → (m : BTreeMap (List ℕ) (List ℕ)) → members_at m.entries c ≡ unwrap_or (get_by (order.cmp-value.it k) m) []
members_are k c e m = ap (λ o. unwrap_or o []) (sym (lookup_agree (is_at (order.cmp-value.it k)) (bytes_eq c) (key_is k c e) m.entries))

-- after a change at a channel
pub members_update_here : (k c : List ℕ) → k ≡ c → (m n : BTreeMap (List ℕ) (List ℕ)) (w : Option (List ℕ)) → UpdatesBy order.cmp-value.it (order.cmp-value.it k) m n w
    → members_at n.entries c ≡ unwrap_or w []
members_update_here k c e m n w h = members_are k c e n ∙ ap (λ o. unwrap_or o []) h.1

pub members_update_apart : (k c : List ℕ) → k ≡ c → (m n : BTreeMap (List ℕ) (List ℕ)) (w : Option (List ℕ)) → UpdatesBy order.cmp-value.it (order.cmp-value.it k) m n w
    → (d : List ℕ) → bytes_eq c d ≡ false → members_at n.entries d ≡ members_at m.entries d
members_update_apart k c e m n w h d apart = members_are d d refl n ∙ ap (λ o. unwrap_or o []) (h.2 d (key_is k c e d ∙ apart)) ∙ sym (members_are d d refl m)

pub none_there : {X : Type 0} (o : Option X) → is_some o ≡ false → o ≡ None
none_there None h = refl
none_there (Some x) h = absurd (true≢false h)

-- the same for identities
pub names_are : (k c : List ℕ) → k ≡ c → (m : BTreeMap (List ℕ) ℕ) → names_at m.entries c ≡ get_by (order.cmp-value.it k) m
names_are k c e m = sym (lookup_agree (is_at (order.cmp-value.it k)) (bytes_eq c) (key_is k c e) m.entries)

pub names_update_here : (k c : List ℕ) → k ≡ c → (m n : BTreeMap (List ℕ) ℕ) (w : Option ℕ) → UpdatesBy order.cmp-value.it (order.cmp-value.it k) m n w → names_at n.entries c ≡ w
names_update_here k c e m n w h = names_are k c e n ∙ h.1

pub names_update_apart : (k c : List ℕ) → k ≡ c → (m n : BTreeMap (List ℕ) ℕ) (w : Option ℕ) → UpdatesBy order.cmp-value.it (order.cmp-value.it k) m n w
    → (d : List ℕ) → bytes_eq c d ≡ false → names_at n.entries d ≡ names_at m.entries d
names_update_apart k c e m n w h d apart = names_are d d refl n ∙ h.2 d (key_is k c e d ∙ apart) ∙ sym (names_are d d refl m)
