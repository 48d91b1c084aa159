-- A channel is loaded that is not loaded.
use Rattle.std.specs.Prelude.{◌≡◌, ℕ, List, Option, None, Some, Result, IfOk, IfErr}
use Rattle.disk_volume.specs.Disk.{Disk, reads}
use Rattle.disk_volume.specs.Moments.{OnlySyncs}
use Rattle.log_format.specs.declared.form.Form.{Form}
use Rattle.log_format.specs.declared.form.Form.TheVariants.{One, Two}
use Rattle.keeper_channel.specs.Slot.{Keeps, HasDamage, NamesIt}
use Rattle.keeper_channel.specs.declared.slot.Slot.{Slot}
use Rattle.keeper_channel.specs.declared.refused.KeeperRefused.{KeeperRefused}
use Rattle.keeper_table.specs.Files.{file_one, file_two, OfChannel}
use Rattle.keeper_table.specs.Table.{joined}
use Rattle.keeper_state.specs.State.{State, Opens, Doubts, Damages, Finds, Reaches, StandsFor, LeavesList}

-- Whatever the table has of the channel, the load came to its list and gives a slot with it, or named the damage of its files. It left the
-- channel in its state, and each crash since it began leaves what was held before.
pub record Loads {O G : Type 0} (rests_one rests_two : Form → List ℕ → Disk → Type 0) (opens_one opens_two : Opens) (doubt : Doubts) (damage_one damage_two : Damages)
    (holds_one : O → List (List ℕ) → Disk → Type 0) (holds_two : G → List (List ℕ) → Disk → Type 0) (owns_one owns_two : (name file : List ℕ) → Type 0) (channel : List ℕ)
    (result : Result (Slot O G) KeeperRefused) (old new : Disk) : Type 0 where
  pub reached : (found : Option (Option (Slot O G))) (state : State) → joined found ≡ None → StandsFor rests_one rests_two opens_one opens_two doubt holds_one holds_two channel found state old
      → IfOk result (λ slot. (held : List (List ℕ)) × (suspense : List (List ℕ)) × Reaches (Finds opens_one opens_two doubt damage_one damage_two channel (reads old)) state held suspense
      × Keeps (opens_one One (file_one channel)) (opens_two Two (file_two channel)) (doubt Two (file_two channel)) holds_one holds_two (Some slot) held suspense new)
  pub stays : (found : Option (Option (Slot O G))) (state : State) → joined found ≡ None → StandsFor rests_one rests_two opens_one opens_two doubt holds_one holds_two channel found state old
      → StandsFor rests_one rests_two opens_one opens_two doubt holds_one holds_two channel found state new
  pub leaves : (found : Option (Option (Slot O G))) (state : State) → joined found ≡ None → StandsFor rests_one rests_two opens_one opens_two doubt holds_one holds_two channel found state old
      → LeavesList opens_one opens_two channel (Finds opens_one opens_two doubt damage_one damage_two channel (reads old)) state old new
  pub damaged : IfErr result (NamesIt (HasDamage (opens_one One (file_one channel)) (opens_two Two (file_two channel)) (damage_one One (file_one channel)) (damage_two Two (file_two channel)) (reads old)))
  pub syncs : OnlySyncs (OfChannel owns_one owns_two channel) old new
