-- Whom a message is for.
use Rattle.std.proofs.Common.{◌≡◌, ℕ, Bool, true, false, List, refl, bytes_eq, Some, None, if◌then◌else◌}
use Rattle.netflux_rooms.specs.declared.target.Target.TheVariants as target
use Rattle.netflux_rooms.specs.Rooms.{Identities, Rooms, has_joined, named}
use Rattle.netflux_rooms.specs.Machine.{target_of, target_elsewhere, target_by}

pub chosen_none : {X : Type 0} (b : Bool) (x : X) → b ≡ false → None ≡ (if b then Some x else None)
chosen_none b x h = rw h refl

pub chosen_some : {X : Type 0} (b : Bool) (x : X) → b ≡ true → Some x ≡ (if b then Some x else None)
chosen_some b x h = rw h refl

pub none_chosen : {X : Type 0} (b : Bool) (x : X) → None ≡ (if b then Some x else None) → b ≡ false
none_chosen true x h = cc
none_chosen false x h = refl

pub some_chosen : {X : Type 0} (b : Bool) (x y : X) → Some y ≡ (if b then Some x else None) → b ≡ true
some_chosen true x y h = refl
some_chosen false x y h = cc

pub some_value : {X : Type 0} (b : Bool) (x y : X) → Some y ≡ (if b then Some x else None) → y ≡ x
some_value true x y h = cc
some_value false x y h = cc

module _ (identities : Identities) (rooms : Rooms) where
  pub elsewhere_named : (text : List ℕ) → bytes_eq text identities.keeper ≡ false → target_elsewhere identities rooms text ≡ target_by (named identities rooms.connected text)
  elsewhere_named text h = rw h refl

  pub target_joined : (n : ℕ) (text : List ℕ) → has_joined rooms n text ≡ true → target_of identities rooms n text ≡ target.Channel text
  target_joined n text h = rw h refl

  pub target_else : (n : ℕ) (text : List ℕ) → has_joined rooms n text ≡ false → target_of identities rooms n text ≡ target_elsewhere identities rooms text
  target_else n text h = rw h refl
