-- What is written of a list. Over every volume it tells entries; where the volume tells what its files hold, it tells those of the list.
use Rattle.std.specs.Prelude.{◌≡◌, ℕ, List, ◌++◌, Option}
use Rattle.std.specs.Io.{StartsWith}
use Rattle.std.specs.Io.KnownBytes.{Appends}
use Rattle.disk_volume.specs.Disk.{Disk}
use Rattle.keeper_channel.specs.Checked.{IsChecked}
use Rattle.keeper_channel.specs.Entries.{AreEntries}
use Rattle.keeper_channel.specs.declared.checked.CheckedChannel.{CheckedChannel}
use Rattle.pad_log.specs.Lines.{log_text}

-- the text tells a list of entries, of which this holds where it is told
abbrev pub IsLogText : (told : Type 0) → (is_it : List (List ℕ) → Type 0) → (text : List ℕ) → Type 0
IsLogText told is_it text = (list : List (List ℕ)) × AreEntries list × (told → is_it list) × (text ≡ log_text list)

-- a part from the front of a text that tells a list of entries; this holds of it where it is told
abbrev pub IsLogPart : (told : Type 0) → (is_it : List ℕ → Type 0) → (part : List ℕ) → Type 0
IsLogPart told is_it part = ((list : List (List ℕ)) × AreEntries list × StartsWith (log_text list) part) × (told → is_it part)

-- this holds of each list that a checked channel has on a disk
abbrev pub OfEachHeld : {O G : Type 0} (holds_one : O → List (List ℕ) → Disk → Type 0) (holds_two : G → List (List ℕ) → Disk → Type 0) → CheckedChannel O G → Disk
    → (List (List ℕ) → Type 0) → Type 0
OfEachHeld holds_one holds_two channel disk is_it = (doubt : (List ℕ → List ℕ) → List (List ℕ)) (held suspense : List (List ℕ)) → IsChecked holds_one holds_two doubt channel held suspense disk → is_it held

-- a text came behind what waited: a front of both is written, and the rest waits
abbrev pub Gathers : (old new : Option (List ℕ)) → (before after text : List ℕ) → Type 0
Gathers old new before after text = (done : List ℕ) × Appends old new done × (done ++ after ≡ before ++ text)
