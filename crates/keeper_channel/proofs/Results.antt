-- A refusal, whatever an `Ok` would have given.
use Rattle.std.proofs.Common.{◌≡◌, ◌⊎◌, inl, inr, Err, IsErrOf, refl}
use Rattle.log_format.specs.declared.damage.Damage.{Damage}
use Rattle.log_format.specs.declared.damage.Damage.TheVariants.{Entry}
use Rattle.keeper_channel.specs.Inside.Refusals.{once_begun}
use Rattle.keeper_channel.specs.declared.refused.KeeperRefused.{KeeperRefused}
use Rattle.keeper_channel.specs.declared.refused.KeeperRefused.TheVariants.{Full, Store, Damaged, NoMemory}

pub same_refusal : {T E : Type 0} (refused other : E) → IsErrOf {T = T} (Err refused) other → refused ≡ other
same_refusal refused other is = cc

pub err_of : {T U : Type 0} (refused other : KeeperRefused) → IsErrOf {T = T} (Err refused) other → IsErrOf {T = U} (Err refused) other
err_of refused other is = let same : refused ≡ other = cc in rw same refl

-- once a store made a call, it is not refused `Full`
pub begun_full : (refused : KeeperRefused) → once_begun refused ≡ Full → ⊥
begun_full Full is = let e : Damaged (Entry 0) ≡ Full = is in absurd (cc)
begun_full Store is = let e : Store ≡ Full = is in absurd (cc)
begun_full (Damaged damage) is = let e : Damaged damage ≡ Full = is in absurd (cc)
begun_full (NoMemory error) is = let e : NoMemory error ≡ Full = is in absurd (cc)

pub begun_store : (refused : KeeperRefused) → once_begun refused ≡ Store → refused ≡ Store
begun_store Full is = let e : Damaged (Entry 0) ≡ Store = is in absurd (cc)
begun_store Store is = refl
begun_store (Damaged damage) is = let e : Damaged damage ≡ Store = is in absurd (cc)
begun_store (NoMemory error) is = let e : NoMemory error ≡ Store = is in absurd (cc)

pub begun_damaged : (refused : KeeperRefused) (damage : Damage) → once_begun refused ≡ Damaged damage → (refused ≡ Full) ⊎ (refused ≡ Damaged damage)
begun_damaged Full damage is = inl refl
begun_damaged Store damage is = let e : Store ≡ Damaged damage = is in absurd (cc)
begun_damaged (Damaged other) damage is = inr is
begun_damaged (NoMemory error) damage is = let e : NoMemory error ≡ Damaged damage = is in absurd (cc)
