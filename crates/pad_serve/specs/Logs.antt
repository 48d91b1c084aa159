-- What the files of channels are: only of files, and no file of two channels.
use Rattle.std.specs.Prelude.{◌≡◌, List, ℕ}
use Rattle.keeper_state.specs.State.{Found, lists, damages}
use Rattle.log_format.specs.declared.damage.Damage.{Damage}
use Rattle.netflux_core.specs.Crashes.{ChannelLogs}
use Rattle.pad_text.specs.Digits.{IsDigits}

-- A load of a channel finds what its own files hold: a list or a damage, and no file is one of two channels.
pub record AreOfFiles (logs : ChannelLogs) : Type 0 where
  pub by_files : (channel : List ℕ) (one other : List ℕ → List ℕ) (found : Found) → ((file : List ℕ) → logs.owns channel file → other file ≡ one file)
      → logs.finds channel one found → logs.finds channel other found
  pub either : (channel : List ℕ) (files : List ℕ → List ℕ) (damage : Damage) (held suspense : List (List ℕ))
      → logs.finds channel files (damages damage) → logs.finds channel files (lists held suspense) → ⊥
  pub apart : (channel other file : List ℕ) → IsDigits 32 channel → IsDigits 32 other → logs.owns channel file → logs.owns other file → other ≡ channel
