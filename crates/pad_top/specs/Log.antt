-- What a run of `log` ends with and writes, by the files of the folder.
use Rattle.std.specs.Prelude.{◌≡◌, ◌⊎◌, ℕ, List, [], ◌++◌, Some, Option}
use Rattle.std.specs.Io.{StartsWith}
use Rattle.log_format.specs.declared.damage.Damage.{Damage}
use Rattle.log_format.specs.declared.form.Form.{Form}
use Rattle.log_format.specs.Damages.{damage_of}
use Rattle.log_format.specs.File.{opens}
use Rattle.log_format.specs.Form.{magic_of}
use Rattle.keeper_table.specs.Files.{OfChannel}
use Rattle.pad_log.specs.Channel.{IsDamageOf, IsListOf}
use Rattle.pad_log.specs.Lines.{log_text}
use Rattle.pad_log.specs.Log.{IsLogText, IsLogPart}
use Rattle.pad_output.specs.Output.{AppendsPartOfSome}
use Rattle.pad_top.specs.declared.status.Status.{Status}
use Rattle.pad_top.specs.declared.status.Status.TheVariants as status
use Rattle.pad_top.specs.Status.{status_line}

-- a file of this form opens as these payloads
abbrev pub OpensAs : Form → (file : List ℕ) → (files : List ℕ → List ℕ) → List (List ℕ) → Type 0
OpensAs form file files payloads = opens (magic_of form) (files file) ≡ Some payloads

-- what damages a file of this form
abbrev pub damage_in : Form → (file : List ℕ) → (files : List ℕ → List ℕ) → Option Damage
damage_in form file files = damage_of form (files file)

-- the damage of a channel, by its two files
abbrev pub IsChannelDamage : (channel : List ℕ) → (files : List ℕ → List ℕ) → Damage → Type 0
IsChannelDamage channel files damage = IsDamageOf OpensAs OpensAs damage_in damage_in channel files damage

-- the list of a channel that is not damaged, by its two files
abbrev pub IsChannelList : (channel : List ℕ) → (files : List ℕ → List ℕ) → List (List ℕ) → Type 0
IsChannelList channel files list = IsListOf OpensAs OpensAs damage_in damage_in channel files list

-- Nothing, or a part from the front of a text that tells entries. Where it is told what the files hold, the second is a part of the
-- lines that tell the channel's list, and the channel is not damaged.
abbrev pub IsPartOfLog : (channel : List ℕ) → (told : Type 0) → (files : List ℕ → List ℕ) → List ℕ → Type 0
IsPartOfLog channel told files part =
    (part ≡ []) ⊎ IsLogPart told (λ part. (list : List (List ℕ)) × IsChannelList channel files list × StartsWith (log_text list) part) part

-- When a run of `log` that no write stops ends with a status, and all that it writes then. `told` says that the volume tells what its
-- files hold, which is `files` then; `store_failed` says that a call of the volume failed.
abbrev pub LogEnds : (channel : List ℕ) → (told : Type 0) → (files : List ℕ → List ℕ) → (store_failed : Type 0) → Status → List ℕ → Type 0
LogEnds channel told files store_failed status.Ok output = IsLogText told (IsChannelList channel files) output
LogEnds channel told files store_failed status.Usage output = ⊥
LogEnds channel told files store_failed status.ReadFault output = ⊥
LogEnds channel told files store_failed status.WriteFault output = ⊥
LogEnds channel told files store_failed status.StoreFault output =
    store_failed × ((part : List ℕ) × IsPartOfLog channel told files part × (output ≡ part ++ status_line status.StoreFault))
LogEnds channel told files store_failed status.LinkFault output = ⊥
LogEnds channel told files store_failed status.Limit output = ⊥
LogEnds channel told files store_failed (status.BadScript number) output = ⊥
LogEnds channel told files store_failed status.NoMemory output = IsPartOfLog channel told files output
LogEnds channel told files store_failed status.Damaged output = (part : List ℕ) × IsPartOfLog channel told files part
    × (told → (part ≡ []) × ((damage : Damage) × IsChannelDamage channel files damage)) × (output ≡ part ++ status_line status.Damaged)
LogEnds channel told files store_failed status.EndedEarly output = ⊥

-- a run of `log` that a failed write stopped wrote a part from the front of what it would have written
abbrev pub LogIsCutShort : (channel : List ℕ) → (told : Type 0) → (files : List ℕ → List ℕ) → (store_failed : Type 0) → Option (List ℕ) → Option (List ℕ) → Type 0
LogIsCutShort channel told files store_failed old new = (status : Status) × AppendsPartOfSome (LogEnds channel told files store_failed status) old new

-- the file is one of a channel's two
abbrev pub IsChannelFile : (channel : List ℕ) → (file : List ℕ) → Type 0
IsChannelFile channel file = OfChannel (λ name it. it ≡ name) (λ name it. it ≡ name) channel file
