-- What the calls of a client do: what is printed, and the client after it. Its texts go on the way to the hub.
use Rattle.std.specs.Prelude.{◌≡◌, ℕ, ◌≤◌, ◌+◌, List, [], ◌∷◌}
use Rattle.pad_patch.specs.declared.operation.Operation.{Operation}
use Rattle.netflux_codec.specs.declared.since.Since.{Since}
use Rattle.client_copy.specs.Pad.{committed}
use Rattle.client_requests.specs.State as requested
use Rattle.client_requests.specs.Calls.{Joins, Leaves, Asks, Resends}
use Rattle.client_requests.specs.Refusal.{IsJoinCause, IsOpenCause, IsAskCause}
use Rattle.client_requests.specs.declared.client_refused.ClientRefused.{ClientRefused}
use Rattle.client_requests.specs.declared.client_refused.ClientRefused.TheVariants as refused
use Rattle.pad_client.specs.declared.edit_refused.EditRefused.{EditRefused}
use Rattle.pad_client.specs.declared.edit_refused.EditRefused.TheVariants as edit
use Rattle.pad_client.specs.declared.sync_refused.SyncRefused.{SyncRefused}
use Rattle.pad_client.specs.declared.sync_refused.SyncRefused.TheVariants as sync
use Rattle.pad_client.specs.declared.heard.Heard.{Heard}
use Rattle.pad_client.specs.State.{ClientState, with_requests}
use Rattle.pad_client.specs.Calls.{Edits}
use Rattle.pad_client.specs.Sync.{Syncs}
use Rattle.pad_client.specs.Repair.{BeginsRepair}
use Rattle.pad_client.specs.Refusal.{IsEditCause, IsSyncCause}
use Rattle.pad_client.specs.Hear.{Hears}
use Rattle.pad_client.specs.Report.{shown}
use Rattle.pad_seat.specs.State.{State, SeatState, View}
use Rattle.pad_seat.specs.Texts.{sends}
use Rattle.pad_seat.specs.Lines.{refused_line, call_word, edit_word, sync_word}

-- ---- refusals that are printed

-- no want of memory
abbrev pub IsCause : ClientRefused → Type 0
IsCause (refused.NoMemory error) = ⊥
IsCause refused.Repairing = Unit {0}
IsCause refused.NotJoined = Unit {0}
IsCause refused.Joined = Unit {0}
IsCause refused.OtherChannel = Unit {0}
IsCause refused.NoKeeper = Unit {0}
IsCause refused.Asking = Unit {0}

-- the same of an edit
abbrev pub IsToldEdit : EditRefused → Type 0
IsToldEdit (edit.NoMemory error) = ⊥
IsToldEdit edit.Repairing = Unit {0}
IsToldEdit edit.Range = Unit {0}
IsToldEdit edit.Pair = Unit {0}
IsToldEdit edit.TooLong = Unit {0}

-- neither want of memory nor `Full`, which the call answers
abbrev pub IsToldSync : SyncRefused → Type 0
IsToldSync sync.Repairing = Unit {0}
IsToldSync sync.NotJoined = Unit {0}
IsToldSync sync.TooLong = Unit {0}
IsToldSync sync.OutboxFull = Unit {0}
IsToldSync sync.Full = ⊥
IsToldSync (sync.NoMemory error) = ⊥

-- ---- calls

-- The call is done: its texts are sent, and nothing is printed. Or it is refused, which is printed, and nothing changes.
pub data Calls {E : Type 0} (line : ℕ) (before : SeatState) (does : List (List ℕ) → ClientState → Type 0) (is_told is_cause : E → Type 0) (word : E → List ℕ)
    : (printed : List ℕ) → SeatState → Type 0 where
  done : (texts : List (List ℕ)) (client : ClientState) → does texts client → Calls line before does is_told is_cause word [] (sends (record before { client = client }) texts)
  refused_by : (cause : E) → is_told cause → is_cause cause → Calls line before does is_told is_cause word (refused_line line (word cause)) before

-- the requests are made of those of the client, and one text is sent
abbrev pub Requests : (requested.State → List ℕ → requested.State → Type 0) → ClientState → List (List ℕ) → ClientState → Type 0
Requests makes client texts after = (text : List ℕ) × (next : requested.State) × makes client.requests text next × (texts ≡ text ∷ []) × (after ≡ with_requests next client)

abbrev pub DoesJoin : (line : ℕ) → (channel : List ℕ) → SeatState → List ℕ → SeatState → Type 0
DoesJoin line channel before printed after = Calls line before
    (Requests (λ requests text next. Joins requests channel text next) before.client) IsCause (IsJoinCause before.client.requests channel) call_word printed after

abbrev pub DoesLeave : (line : ℕ) → SeatState → List ℕ → SeatState → Type 0
DoesLeave line before printed after = Calls line before
    (Requests Leaves before.client) IsCause (IsOpenCause before.client.requests) call_word printed after

abbrev pub DoesHistory : (line : ℕ) → Since → SeatState → List ℕ → SeatState → Type 0
DoesHistory line from before printed after = Calls line before
    (Requests (λ requests text next. Asks requests from text next) before.client) IsCause (IsAskCause before.client.requests) call_word printed after

abbrev pub DoesResend : (line : ℕ) → SeatState → List ℕ → SeatState → Type 0
DoesResend line before printed after = Calls line before
    (λ texts client. (next : requested.State) × Resends before.client.requests texts next × (client ≡ with_requests next before.client))
    IsCause (IsOpenCause before.client.requests) call_word printed after

abbrev pub DoesRepair : (line : ℕ) → SeatState → List ℕ → SeatState → Type 0
DoesRepair line before printed after = Calls line before
    (λ texts client. (text : List ℕ) × BeginsRepair before.client text client × (texts ≡ text ∷ []))
    IsCause (IsAskCause before.client.requests) call_word printed after

abbrev pub DoesSync : (line : ℕ) → SeatState → List ℕ → SeatState → Type 0
DoesSync line before printed after = Calls line before (Syncs before.client) IsToldSync (IsSyncCause before.client) sync_word printed after

abbrev pub DoesEdit : (line : ℕ) → Operation → SeatState → List ℕ → SeatState → Type 0
DoesEdit line operation before printed after = Calls line before
    (λ texts client. Edits (committed before.client.copy.pad) before.client operation client × (texts ≡ []))
    IsToldEdit (IsEditCause before.client.requests (shown before.client) operation) edit_word printed after

-- ---- numbers

-- at most so many numbers were given out, to requests and to edits
abbrev pub GivesOut : (requests strokes : ℕ) → View → View → Type 0
GivesOut requests strokes before after = (after.client.requests.last ≤ before.client.requests.last + requests) × (after.client.copy.strokes ≤ before.client.copy.strokes + strokes)

-- ---- hearing

-- the client hears a text, and all else stays
pub record HearsText (before : SeatState) (text : List ℕ) (answer : Heard) (after : SeatState) : Type 0 where
  pub client : ClientState
  pub hears : Hears before.client text answer client
  pub state : after ≡ record before { client = client }
