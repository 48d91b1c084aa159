-- How a keeper over logs keeps all channels.
use Rattle.std.specs.Prelude.{◌≡◌, ℕ, List, Option, Some}
use Rattle.disk_volume.specs.Disk.{Disk}
use Rattle.keeper_channel.specs.Chan.{IsList}
use Rattle.keeper_channel.specs.declared.slot.Slot.{Slot}
use Rattle.keeper_state.specs.State.{Opens, Doubts, Damages, Finds, StandsFor}
use Rattle.keeper_table.specs.Files.{file_one, file_two, OfChannel}
use Rattle.keeper_table.specs.Table.{channel_in, slot_in, size_of}
use Rattle.keeper_table.specs.declared.table.Table.{Table}
use Rattle.log_format.specs.declared.damage.Damage.{Damage}
use Rattle.log_format.specs.declared.form.Form.{Form}
use Rattle.log_format.specs.declared.form.Form.TheVariants.{One, Two}
use Rattle.pad_text.specs.Digits.{IsDigits}
use Rattle.netflux_core.specs.Channels.{Channels}
use Rattle.netflux_core.specs.Crashes.{ChannelLogs}

-- no file belongs to a channel's logs of both forms
abbrev pub AreApart : (owns_one owns_two : (name file : List ℕ) → Type 0) → Type 0
AreApart owns_one owns_two = (channel file : List ℕ) → owns_two (file_two channel) file → owns_one (file_one channel) file → ⊥

-- what the files of channels are, by what the logs of both forms are
abbrev pub logs_of : (opens_one opens_two : Opens) (doubt : Doubts) (damage_one damage_two : Damages) (owns_one owns_two : (name file : List ℕ) → Type 0) → ChannelLogs
logs_of opens_one opens_two doubt damage_one damage_two owns_one owns_two = record {
  finds = λ channel files found. Finds opens_one opens_two doubt damage_one damage_two channel files found;
  lists = λ channel files list. IsList (opens_one One (file_one channel)) (opens_two Two (file_two channel)) files list;
  owns = λ channel file. OfChannel owns_one owns_two channel file;
  old = λ channel file. owns_one (file_one channel) file;
}

-- what the table has of each channel stands for its state, and it has as many as were loaded
pub record KeepsAll {O G : Type 0} (rests_one rests_two : Form → List ℕ → Disk → Type 0) (opens_one opens_two : Opens) (doubt : Doubts)
    (holds_one : O → List (List ℕ) → Disk → Type 0) (holds_two : G → List (List ℕ) → Disk → Type 0) (table : Table (Slot O G)) (channels : Channels) (disk : Disk) : Type 0 where
  pub each : (channel : List ℕ) → IsDigits 32 channel
      → StandsFor rests_one rests_two opens_one opens_two doubt holds_one holds_two channel (channel_in table channel) (channels.at channel) disk
  pub loaded : channels.loaded ≡ size_of table

-- a channel is loaded
abbrev pub IsLoaded : {O G : Type 0} → Table (Slot O G) → (channel : List ℕ) → Type 0
IsLoaded {O} {G} table channel = (slot : Slot O G) × (slot_in table channel ≡ Some slot)
