-- What a crash leaves of the channels of a folder.
use Rattle.std.specs.Prelude.{◌≡◌, List, ℕ}
use Rattle.disk_volume.specs.Disk.{Disk, reads}
use Rattle.disk_volume.specs.Moments.{EachNow}
use Rattle.keeper_channel.specs.Chan.{IsWithin}
use Rattle.keeper_state.specs.State.{Has, damages}
use Rattle.log_format.specs.declared.damage.Damage.{Damage}
use Rattle.netflux_core.specs.Channels.{Channels}
use Rattle.netflux_core.specs.Crashes.{ChannelLogs}
use Rattle.netflux_core.specs.Machine.{StoredEntry}
use Rattle.netflux_core.specs.Runs.{IsOwned}
use Rattle.netflux_core.specs.Stored.{AreHeld}
use Rattle.pad_text.specs.Digits.{IsDigits}

-- each crash now leaves these bytes of a file
abbrev pub Stays : (entry now : Disk) → (file : List ℕ) → Type 0
Stays entry now file = EachNow now (λ image. image file ≡ reads entry file)

-- What a crash now leaves, by what is held of each channel and in suspense. Of a channel that was not loaded that is what its files gave at entry.
pub record Leaves (logs : ChannelLogs) (entry : Disk) (channels : Channels) (stored : List StoredEntry) (now : Disk) : Type 0 where
  -- of each channel the list held, or that and what is in suspense
  pub held : (channel : List ℕ) → IsDigits 32 channel → (held suspense : List (List ℕ)) → Has (logs.finds channel (reads entry)) (channels.at channel) held suspense
      → EachNow now (λ image. IsWithin (logs.lists channel image) held suspense)
  -- which has, at its index, each entry that a step stored: those that were acknowledged
  pub acknowledged : AreHeld channels stored
  -- of the files of a channel that was damaged at entry what they were
  pub damaged : (channel : List ℕ) (damage : Damage) → IsDigits 32 channel → logs.finds channel (reads entry) (damages damage)
      → (file : List ℕ) → logs.owns channel file → Stays entry now file
  -- and of each file that is no channel's
  pub others : (file : List ℕ) → (IsOwned logs.owns file → ⊥) → Stays entry now file
