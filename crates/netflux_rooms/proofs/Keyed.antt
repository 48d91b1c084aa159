-- A key, and each other key.
use Rattle.std.proofs.Common.{◌≡◌, ℕ, Bool, true, false, List, refl, subst, nat_eq, bytes_eq}
use Rattle.std.proofs.lemmas.Bool.{eqb-true}
use Rattle.netflux_rooms.proofs.Joins.{bytes_one}

pub by_number : (P : ℕ → Type 0) (n m : ℕ) → P n → (nat_eq n m ≡ false → P m) → P m
by_number P n m here apart = by (nat_eq n m) refl
  where
    by : (b : Bool) → nat_eq n m ≡ b → P m
    by true e = subst P (eqb-true n m e) here
    by false e = apart e

pub by_channel : (P : List ℕ → Type 0) (c d : List ℕ) → P c → (bytes_eq c d ≡ false → P d) → P d
by_channel P c d here apart = by (bytes_eq c d) refl
  where
    by : (b : Bool) → bytes_eq c d ≡ b → P d
    by true e = subst P (bytes_one c d e) here
    by false e = apart e
