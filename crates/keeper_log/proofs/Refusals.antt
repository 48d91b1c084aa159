-- Refusals.
use Rattle.std.proofs.Common.{◌≡◌, ◌↔◌, true, false, Result, Ok, Err, IsOk, IsErrOf, OnOk, refl, ap, subst}
use Rattle.log_format.specs.declared.damage.Damage.{Damage}
use Rattle.gated_log.specs.declared.refused.LoadRefused.{LoadRefused}
use Rattle.gated_log.specs.declared.refused.LoadRefused.TheVariants.{Damaged as LoadDamaged}
use Rattle.keeper_channel.specs.Logs.{NamesDamage}
use Rattle.keeper_channel.specs.Slot.{NamesIt}
use Rattle.keeper_channel.specs.declared.refused.KeeperRefused.{KeeperRefused}
use Rattle.keeper_channel.specs.declared.refused.KeeperRefused.TheVariants.{Full, Store, Damaged, NoMemory}

pub same_refusal : {T E : Type 0} (refused other : E) → IsErrOf {T = T} (Err refused) other → refused ≡ other
same_refusal refused other is = cc

-- what a refused load names, the call that needed it names
pub names_it : (is : Damage → Type 0) (refused : LoadRefused) (result : KeeperRefused) → (result ≡ Full → ⊥) → ((damage : Damage) → result ≡ Damaged damage → refused ≡ LoadDamaged damage)
    → NamesDamage is refused → NamesIt is result
names_it is refused Full full damaged names = full refl
names_it is refused Store full damaged names = tt
names_it is refused (Damaged damage) full damaged names = subst (λ (r : LoadRefused). NamesDamage is r) (damaged damage refl) names
names_it is refused (NoMemory error) full damaged names = tt

-- what is answered is no refusal
pub ok_is_none : {T E : Type 0} (answer : T) (other : E) → IsErrOf (Ok answer) other → ⊥
ok_is_none answer other is = absurd (cc)

pub ok_not_refused : {T E : Type 0} (result : Result T E) (other : E) → IsOk result → IsErrOf result other → ⊥
ok_not_refused (Ok answer) other ok is = ok_is_none answer other is
ok_not_refused (Err refused) other ok is = let e : false ≡ true = ok in absurd (cc)

pub err_is_not_ok : {A : Type 0} → false ≡ true → A
err_is_not_ok same = absurd (cc)

-- whatever would have been answered
pub refused_again : {T U E : Type 0} (refused other : E) → IsErrOf {T = T} (Err refused) other → IsErrOf {T = U} (Err refused) other
refused_again {T} {U} refused other is = ap (λ r. Err r) (same_refusal refused other is)

pub ok_exactly : {T U E : Type 0} (one : T) (other : U) (refused : E) (P : Type 0) → (IsErrOf (Ok one) refused ↔ P) → (IsErrOf (Ok other) refused ↔ P)
ok_exactly one other refused P exactly = (λ is. absurd (ok_is_none other refused is), λ p. absurd (ok_is_none one refused (exactly.1 p)))

pub err_exactly : {T U E : Type 0} (refused other : E) (P : Type 0) → (IsErrOf {T = T} (Err refused) other ↔ P) → (IsErrOf {T = U} (Err refused) other ↔ P)
err_exactly {T} {U} refused other P exactly = (λ is. exactly.0 (refused_again refused other is), λ p. refused_again refused other (exactly.1 p))

-- what an answer gives
pub on_ok : {T E : Type 0} (result : Result T E) (P : Type 0) → (IsOk result → P) → OnOk result P
on_ok (Ok answer) P by = by refl
on_ok (Err refused) P by = tt
