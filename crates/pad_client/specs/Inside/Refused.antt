-- The causes of refusals by calls below, as causes of the client.
use Rattle.std.specs.Prelude.{◌≡◌, true, false}
use Rattle.pad_stroke.specs.declared.edit_refused.EditRefused.TheVariants as work
use Rattle.pad_stroke.specs.declared.edit_refused.EditRefused as stroke
use Rattle.client_requests.specs.State as requested
use Rattle.client_requests.specs.State.{repairs}
use Rattle.pad_client.specs.declared.edit_refused.EditRefused.{EditRefused}
use Rattle.pad_client.specs.declared.edit_refused.EditRefused.TheVariants as edit
use Rattle.pad_client.specs.declared.sync_refused.SyncRefused.{SyncRefused}
use Rattle.pad_client.specs.declared.sync_refused.SyncRefused.TheVariants as sync

-- the cause of an edit of the work
abbrev pub is_edit_refused : stroke.EditRefused → EditRefused
is_edit_refused work.Range = edit.Range
is_edit_refused work.Pair = edit.Pair
is_edit_refused work.TooLong = edit.TooLong
is_edit_refused (work.NoMemory error) = edit.NoMemory error

-- a repair runs, or no channel is joined
abbrev pub IsOpenSyncCause : requested.State → SyncRefused → Type 0
IsOpenSyncCause requests sync.Repairing = repairs requests.asked ≡ true
IsOpenSyncCause requests sync.NotJoined = (repairs requests.asked ≡ false) × (requests.joined ≡ false)
IsOpenSyncCause requests (sync.NoMemory error) = Unit {0}
IsOpenSyncCause requests sync.TooLong = ⊥
IsOpenSyncCause requests sync.OutboxFull = ⊥
IsOpenSyncCause requests sync.Full = ⊥
