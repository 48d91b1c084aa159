-- One channel of a table is written.
use Rattle.std.proofs.Common.{◌≡◌, ◌∙◌, ℕ, ◌+◌, Bool, true, false, not, List, Option, None, Some, is_some, IsSome, IsTrue, bytes_eq, if◌then◌else◌, refl, sym, ap, subst, arith}
use Rattle.std.specs.Ordering.{nat_cmp}
use Rattle.std.specs.Cmp.Lexicographic.{slice_cmp, texts_ties}
use Rattle.std.specs.BTreeMap.{BTreeMap, get, Updates}

-- it has what was written
pub written : {S : Type 0} (old new : BTreeMap (List ℕ) (Option S)) (key channel : List ℕ) (found : Option S) → key ≡ channel → Updates (slice_cmp nat_cmp) old new key (Some found)
    → get (slice_cmp nat_cmp) new channel ≡ Some found
written old new key channel found same updates = subst (λ (k : List ℕ). get (slice_cmp nat_cmp) new k ≡ Some found) same updates.1

-- and every other one what it had
pub others : {S : Type 0} (old new : BTreeMap (List ℕ) (Option S)) (key channel : List ℕ) (found : Option S) → key ≡ channel → Updates (slice_cmp nat_cmp) old new key (Some found)
    → (other : List ℕ) → bytes_eq channel other ≡ false → get (slice_cmp nat_cmp) new other ≡ get (slice_cmp nat_cmp) old other
others old new key channel found same updates other differ =
    updates.2 other (sym (texts_ties key other) ∙ ap (λ (k : List ℕ). bytes_eq k other) same ∙ differ)

-- whether a channel is there
here : {S : Type 0} (found : Option (Option S)) (has : Bool) → has ≡ is_some found → (IsTrue (not has) → found ≡ None) × (found ≡ None → IsTrue (not has))
here None has e = (λ t. refl, λ t. ap not e)
here (Some slot) has e = (λ t. let both : false ≡ true = sym (ap not e) ∙ t in cc, λ t. cc)

pub absent : {S : Type 0} (map : BTreeMap (List ℕ) (Option S)) (key channel : List ℕ) (has : Bool) → key ≡ channel → has ≡ is_some (get (slice_cmp nat_cmp) map key)
    → (IsTrue (not has) → get (slice_cmp nat_cmp) map channel ≡ None) × (get (slice_cmp nat_cmp) map channel ≡ None → IsTrue (not has))
absent map key channel has same is =
    here (get (slice_cmp nat_cmp) map channel) has (is ∙ ap (λ (k : List ℕ). is_some (get (slice_cmp nat_cmp) map k)) same)

-- a channel that is there adds none
pub size_kept : {S : Type 0} (map : BTreeMap (List ℕ) (Option S)) (key channel : List ℕ) (found : Option (Option S)) (after before : ℕ) → key ≡ channel → found ≡ get (slice_cmp nat_cmp) map key
    → IsSome (get (slice_cmp nat_cmp) map channel) → after ≡ before + (if is_some found then 0 else 1) → after ≡ before
size_kept {S} map key channel found after before same is some grown = go found (is ∙ ap (get (slice_cmp nat_cmp) map) same) grown
  where
    go : (found : Option (Option S)) → found ≡ get (slice_cmp nat_cmp) map channel → after ≡ before + (if is_some found then 0 else 1) → after ≡ before
    go None e grown = let never : false ≡ true = ap is_some e ∙ some in cc
    go (Some slot) e grown = omega (arith, grown)
