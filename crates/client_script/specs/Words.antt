-- The names of refusals, and the lines that tell them.
use Rattle.std.specs.Prelude.{ℕ, Option, Some, None, List, [], ◌∷◌, ◌++◌, codes, decimal}
use Rattle.pad_lines.specs.Line.{newline}
use Rattle.netflux_codec.specs.declared.word.Word.{Word}
use Rattle.netflux_codec.specs.Word.{word_text}
use Rattle.client_requests.specs.declared.client_refused.ClientRefused.{ClientRefused}
use Rattle.client_requests.specs.declared.client_refused.ClientRefused.TheVariants as call
use Rattle.pad_client.specs.declared.edit_refused.EditRefused.{EditRefused}
use Rattle.pad_client.specs.declared.edit_refused.EditRefused.TheVariants as edit
use Rattle.pad_client.specs.declared.sync_refused.SyncRefused.{SyncRefused}
use Rattle.pad_client.specs.declared.sync_refused.SyncRefused.TheVariants as sync
use Rattle.pad_client.specs.declared.heard.Heard.{Heard}
use Rattle.pad_client.specs.declared.heard.Heard.TheVariants as heard

-- of a request; none for want of memory
abbrev pub call_name : ClientRefused → Option (List ℕ)
call_name call.Repairing = Some (codes "Repairing")
call_name call.NotJoined = Some (codes "NotJoined")
call_name call.Joined = Some (codes "Joined")
call_name call.OtherChannel = Some (codes "OtherChannel")
call_name call.NoKeeper = Some (codes "NoKeeper")
call_name call.Asking = Some (codes "Asking")
call_name (call.NoMemory error) = None

-- of an edit
abbrev pub edit_name : EditRefused → Option (List ℕ)
edit_name edit.Repairing = Some (codes "Repairing")
edit_name edit.Range = Some (codes "Range")
edit_name edit.Pair = Some (codes "Pair")
edit_name edit.TooLong = Some (codes "TooLong")
edit_name (edit.NoMemory error) = None

-- of a sync; none if too many names would be known, which ends the run
abbrev pub sync_name : SyncRefused → Option (List ℕ)
sync_name sync.Repairing = Some (codes "Repairing")
sync_name sync.NotJoined = Some (codes "NotJoined")
sync_name sync.TooLong = Some (codes "TooLong")
sync_name sync.OutboxFull = Some (codes "OutboxFull")
sync_name sync.Full = None
sync_name (sync.NoMemory error) = None

-- a line of words, parted by one space
abbrev pub refused_line : (line : ℕ) → (name : List ℕ) → List ℕ
refused_line line name = codes "refused " ++ decimal line ++ codes " " ++ name ++ newline ∷ []

-- of a request that was not done, and why
abbrev pub error_line : (number : ℕ) → Word → List ℕ
error_line number word = codes "error " ++ decimal number ++ codes " " ++ word_text word ++ newline ∷ []

-- what is written of a text that was heard: an error is told, and nothing else
abbrev pub heard_lines : Heard → List ℕ
heard_lines (heard.Error number word) = error_line number word
heard_lines _ = []
