-- A load of a channel finds what its own files hold.
use Rattle.std.proofs.Common.{◌≡◌, inl, inr, ℕ, List, sym}
use Rattle.log_format.specs.declared.damage.Damage.{Damage}
use Rattle.log_format.specs.declared.form.Form.TheVariants.{One, Two}
use Rattle.keeper_channel.specs.Slot.{HasDamage}
use Rattle.keeper_state.specs.State.{Opens, Doubts, Damages, Found, lists, damages, Finds}
use Rattle.keeper_table.specs.Files.{file_one, file_two}
use Rattle.hub_keeper.proofs.Files.{found_on, damaged_on, has_on}

module _ (opens_one opens_two : Opens) (doubt : Doubts) (damage_one damage_two : Damages) (channel : List ℕ) where
  -- files that a channel's logs open as the same, with the same doubt and the same damage
  pub record Follow (one other : List ℕ → List ℕ) : Type 0 where
    pub one_opens : (list : List (List ℕ)) → opens_one One (file_one channel) one list → opens_one One (file_one channel) other list
    pub two_opens : (list : List (List ℕ)) → opens_two Two (file_two channel) one list → opens_two Two (file_two channel) other list
    pub doubts : doubt Two (file_two channel) one ≡ doubt Two (file_two channel) other
    pub one_damaged : damage_one One (file_one channel) one ≡ damage_one One (file_one channel) other
    pub two_damaged : damage_two Two (file_two channel) one ≡ damage_two Two (file_two channel) other

  damage_follows : (one other : List ℕ → List ℕ) → Follow one other → Follow other one → (damage : Damage)
      → HasDamage (opens_one One (file_one channel)) (opens_two Two (file_two channel)) (damage_one One (file_one channel)) (damage_two Two (file_two channel)) one damage
      → HasDamage (opens_one One (file_one channel)) (opens_two Two (file_two channel)) (damage_one One (file_one channel)) (damage_two Two (file_two channel)) other damage
  damage_follows one other on back damage has =
      has_on (opens_one One (file_one channel)) (opens_two Two (file_two channel)) (doubt Two (file_two channel)) (damage_one One (file_one channel)) (damage_two Two (file_two channel)) one other
      on.one_opens on.two_opens damage on.one_damaged on.two_damaged
      (λ found is. damaged_on (opens_one One (file_one channel)) (opens_two Two (file_two channel)) (doubt Two (file_two channel)) (damage_one One (file_one channel)) (damage_two Two (file_two channel)) other one
      back.one_opens back.two_opens found back.one_damaged back.two_damaged is) has

  pub finds_follow : (one other : List ℕ → List ℕ) (found : Found) → Follow one other → Follow other one
      → Finds opens_one opens_two doubt damage_one damage_two channel one found → Finds opens_one opens_two doubt damage_one damage_two channel other found
  finds_follow one other (lists held suspense) on back is = (
    found_on (opens_one One (file_one channel)) (opens_two Two (file_two channel)) (doubt Two (file_two channel)) (damage_one One (file_one channel)) (damage_two Two (file_two channel)) one other
        on.one_opens on.two_opens held suspense on.doubts is.0,
    (λ damage has. is.1 damage (damage_follows other one back on damage has)),
  )
  finds_follow one other (damages damage) on back is = damage_follows one other on back damage is
