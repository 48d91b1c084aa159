-- The line of a refused command.
use Rattle.std.specs.Prelude.{ℕ, List, ◌++◌, codes, decimal}
use Rattle.client_requests.specs.declared.client_refused.ClientRefused.{ClientRefused}
use Rattle.client_requests.specs.declared.client_refused.ClientRefused.TheVariants as call
use Rattle.pad_client.specs.declared.edit_refused.EditRefused.{EditRefused}
use Rattle.pad_client.specs.declared.edit_refused.EditRefused.TheVariants as edit
use Rattle.pad_client.specs.declared.sync_refused.SyncRefused.{SyncRefused}
use Rattle.pad_client.specs.declared.sync_refused.SyncRefused.TheVariants as sync

-- the line of a refused command: the number of its line, and a word
abbrev pub refused_line : (line : ℕ) (word : List ℕ) → List ℕ
refused_line line word = codes "refused " ++ decimal line ++ codes " " ++ word ++ codes "\n"

-- The word of a refusal is its name. Want of memory has no word: the call answers it.
abbrev pub call_word : ClientRefused → List ℕ
call_word call.Repairing = codes "Repairing"
call_word call.NotJoined = codes "NotJoined"
call_word call.Joined = codes "Joined"
call_word call.OtherChannel = codes "OtherChannel"
call_word call.NoKeeper = codes "NoKeeper"
call_word call.Asking = codes "Asking"
call_word (call.NoMemory error) = codes ""

abbrev pub edit_word : EditRefused → List ℕ
edit_word edit.Repairing = codes "Repairing"
edit_word edit.Range = codes "Range"
edit_word edit.Pair = codes "Pair"
edit_word edit.TooLong = codes "TooLong"
edit_word (edit.NoMemory error) = codes ""

abbrev pub sync_word : SyncRefused → List ℕ
sync_word sync.Repairing = codes "Repairing"
sync_word sync.NotJoined = codes "NotJoined"
sync_word sync.TooLong = codes "TooLong"
sync_word sync.OutboxFull = codes "OutboxFull"
sync_word sync.Full = codes "Full"
sync_word (sync.NoMemory error) = codes ""
