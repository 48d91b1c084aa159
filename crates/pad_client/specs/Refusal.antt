-- Why an edit or a sync is refused. Of the causes that hold the first in the stated order is told: each says that no earlier one holds.
use Rattle.std.specs.Prelude.{◌≡◌, ◌⊎◌, ◌+◌, ◌<◌, ◌%◌, ◌==◌, if◌then◌else◌, Bool, true, false, List, [], ◌∷◌, ℕ, length}
use Rattle.pad_patch.specs.Piece.{text_after}
use Rattle.pad_patch.specs.Misfit.{longest_text}
use Rattle.pad_patch.specs.declared.operation.Operation.{Operation}
use Rattle.pad_patch.specs.declared.patch.Patch.{Patch}
use Rattle.pad_stroke.specs.declared.edit_refused.EditRefused.TheVariants as work
use Rattle.pad_stroke.specs.Edit.{IsCause}
use Rattle.pad_message.specs.Content.{most_operations}
use Rattle.pad_list.specs.Number.{IsNumberOf}
use Rattle.pad_graph.specs.declared.graph.TheConstants.{MOST_NAMES}
use Rattle.pad_model.specs.Path.{interval, since_checkpoint}
use Rattle.pad_model.specs.Count.{IsKnown}
use Rattle.client_copy.specs.Pad.{Pad, committed}
use Rattle.client_outbox.specs.Outbox.{most_unacknowledged}
use Rattle.client_requests.specs.State as requested
use Rattle.client_requests.specs.Refusal.{IsOpen}
use Rattle.client_requests.specs.State.{repairs}
use Rattle.pad_client.specs.declared.edit_refused.EditRefused.{EditRefused}
use Rattle.pad_client.specs.declared.edit_refused.EditRefused.TheVariants as edit
use Rattle.pad_client.specs.declared.sync_refused.SyncRefused.{SyncRefused}
use Rattle.pad_client.specs.declared.sync_refused.SyncRefused.TheVariants as sync
use Rattle.pad_client.specs.State.{ClientState}

-- ---- edit

-- a repair runs; else the causes of an edit of this text, which the user sees
abbrev pub IsEditCause : requested.State → List ℕ → Operation → EditRefused → Type 0
IsEditCause requests shown operation edit.Repairing = repairs requests.asked ≡ true
IsEditCause requests shown operation edit.Range = (repairs requests.asked ≡ false) × IsCause shown operation work.Range
IsEditCause requests shown operation edit.Pair = (repairs requests.asked ≡ false) × IsCause shown operation work.Pair
IsEditCause requests shown operation edit.TooLong = (repairs requests.asked ≡ false) × IsCause shown operation work.TooLong
IsEditCause requests shown operation (edit.NoMemory error) = Unit {0}

-- ---- sync

-- a checkpoint may be the next message of the best chain
abbrev pub is_due : Pad → Bool
is_due pad = ((since_checkpoint pad.choice.chosen + 1) % interval pad.base pad.choice.chosen) == 0

-- how many messages are made of operations: none of none; else the patch message, and a checkpoint before it if one is due
abbrev pub made_of : List Operation → Bool → ℕ
made_of [] due = 0
made_of (operation ∷ operations) due = if due then 2 else 1

-- how many messages a sync makes
abbrev pub messages_made : ClientState → ℕ
messages_made client = made_of client.copy.work.patch.ops (is_due client.copy.pad)

-- the text after the work, or the work, is longer than may be sent
abbrev pub IsTooLongOf : Patch → List ℕ → Type 0
IsTooLongOf work text = (longest_text < length (text_after work text)) ⊎ (most_operations < length work.ops)

-- the shown text is, or the work
abbrev pub IsTooLong : ClientState → Type 0
IsTooLong client = IsTooLongOf client.copy.work.patch (committed client.copy.pad)

-- the outbox would hold too many messages
abbrev pub OverfillsOutbox : ClientState → Type 0
OverfillsOutbox client = most_unacknowledged < length client.requests.outbox + messages_made client

-- too many names would be known
abbrev pub PassesKnown : ClientState → Type 0
PassesKnown client = (known : ℕ) × IsNumberOf (IsKnown client.copy.pad.base client.copy.pad.received) known × (MOST_NAMES < known + messages_made client)

abbrev pub IsSyncCause : ClientState → SyncRefused → Type 0
IsSyncCause client sync.Repairing = repairs client.requests.asked ≡ true
IsSyncCause client sync.NotJoined = (repairs client.requests.asked ≡ false) × (client.requests.joined ≡ false)
IsSyncCause client sync.TooLong = IsOpen client.requests × IsTooLong client
IsSyncCause client sync.OutboxFull = IsOpen client.requests × ¬ (IsTooLong client) × OverfillsOutbox client
IsSyncCause client sync.Full = IsOpen client.requests × ¬ (IsTooLong client) × ¬ (OverfillsOutbox client) × PassesKnown client
IsSyncCause client (sync.NoMemory error) = Unit {0}

-- none of them holds
pub record MaySync (client : ClientState) : Type 0 where
  pub is_open : IsOpen client.requests
  pub short : ¬ (IsTooLong client)
  pub room : ¬ (OverfillsOutbox client)
  pub known : ¬ (PassesKnown client)

-- memory ran out
abbrev pub IsNoMemory : SyncRefused → Type 0
IsNoMemory (sync.NoMemory error) = Unit {0}
IsNoMemory sync.Repairing = ⊥
IsNoMemory sync.NotJoined = ⊥
IsNoMemory sync.TooLong = ⊥
IsNoMemory sync.OutboxFull = ⊥
IsNoMemory sync.Full = ⊥
