-- The slot of a channel is taken out of the table, and entries of a loaded channel are read.
use Rattle.std.specs.Prelude.{◌≡◌, ℕ, List, false, Some, Result, IfOk, IfErr, bytes_eq, is_some}
use Rattle.disk_volume.specs.Disk.{Disk, reads}
use Rattle.disk_volume.specs.Moments.{OnlySyncs}
use Rattle.log_format.specs.declared.form.Form.{Form}
use Rattle.log_format.specs.declared.form.Form.TheVariants.{One, Two}
use Rattle.keeper_channel.specs.Slot.{Keeps}
use Rattle.keeper_channel.specs.declared.slot.Slot.{Slot}
use Rattle.keeper_channel.specs.declared.refused.KeeperRefused.{KeeperRefused}
use Rattle.keeper_table.specs.declared.table.Table.{Table}
use Rattle.keeper_table.specs.Files.{file_one, file_two, OfChannel}
use Rattle.keeper_table.specs.Table.{channel_in, size_of}
use Rattle.keeper_state.specs.State.{State, Opens, Doubts, Damages, Finds, FromList, NotReached, StandsFor, LeavesList}

-- A call took the slot of a channel, which has the list that the call came to; or it was refused before it came to a list. The channel's
-- files were only synced, and each crash since the call began leaves what was held before.
pub record Takes {O G : Type 0} (rests_one rests_two : Form → List ℕ → Disk → Type 0) (opens_one opens_two : Opens) (doubt : Doubts) (damage_one damage_two : Damages)
    (holds_one : O → List (List ℕ) → Disk → Type 0) (holds_two : G → List (List ℕ) → Disk → Type 0) (owns_one owns_two : (name file : List ℕ) → Type 0) (channel : List ℕ)
    (result : Result (Slot O G) KeeperRefused) (before after : Table (Slot O G)) (old new : Disk) : Type 0 where
  pub taken : (state : State) → StandsFor rests_one rests_two opens_one opens_two doubt holds_one holds_two channel (channel_in before channel) state old
      → IfOk result (λ slot. FromList (Finds opens_one opens_two doubt damage_one damage_two channel (reads old)) (size_of before) state (λ held suspense.
      Keeps (opens_one One (file_one channel)) (opens_two Two (file_two channel)) (doubt Two (file_two channel)) holds_one holds_two (Some slot) held suspense new))
  pub refused : (state : State) → StandsFor rests_one rests_two opens_one opens_two doubt holds_one holds_two channel (channel_in before channel) state old
      → IfErr result (λ refused. NotReached (Finds opens_one opens_two doubt damage_one damage_two channel (reads old)) (size_of before) state refused
      × StandsFor rests_one rests_two opens_one opens_two doubt holds_one holds_two channel (channel_in after channel) state new)
  pub leaves : (state : State) → StandsFor rests_one rests_two opens_one opens_two doubt holds_one holds_two channel (channel_in before channel) state old
      → LeavesList opens_one opens_two channel (Finds opens_one opens_two doubt damage_one damage_two channel (reads old)) state old new
  pub syncs : OnlySyncs (OfChannel owns_one owns_two channel) old new

-- Of each other channel the table has what it had, and it has the same channels.
pub record ReadsOf {S : Type 0} (channel : List ℕ) (before after : Table S) : Type 0 where
  pub others : (other : List ℕ) → bytes_eq channel other ≡ false → channel_in after other ≡ channel_in before other
  pub known : is_some (channel_in after channel) ≡ is_some (channel_in before channel)
  pub size : size_of after ≡ size_of before
