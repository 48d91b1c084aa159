-- What the lines of a client script do, and what a text that is heard does.
use Rattle.std.specs.Prelude.{◌≡◌, ◌⊎◌, ℕ, ◌+◌, ◌*◌, ◌<◌, ◌^◌, ◌-◌, Some, List, [], ◌∷◌, ◌++◌, length}
use Rattle.pad_message.specs.Kind.{IsInterval}
use Rattle.pad_patch.specs.declared.operation.Operation.{Operation}
use Rattle.netflux_codec.specs.declared.since.Since.{Since}
use Rattle.pad_script.specs.declared.act.Act.{Act}
use Rattle.pad_script.specs.declared.act.Act.TheVariants as act
use Rattle.pad_script.specs.declared.command.Command.{Command}
use Rattle.pad_script.specs.Requests.{makes_requests, request_lines}
use Rattle.pad_script.specs.declared.requests.TheConstants.{MOST_EACH, MOST_REQUESTS}
use Rattle.client_copy.specs.Pad.{committed}
use Rattle.client_copy.specs.View.{NoClash}
use Rattle.client_requests.specs.declared.client_refused.ClientRefused.{ClientRefused}
use Rattle.client_requests.specs.State as requested
use Rattle.client_requests.specs.Calls.{Joins, Leaves, Asks, Resends}
use Rattle.client_requests.specs.Refusal.{IsJoinCause, IsOpenCause, IsAskCause}
use Rattle.pad_client.specs.declared.edit_refused.EditRefused.{EditRefused}
use Rattle.pad_client.specs.declared.heard.Heard.{Heard}
use Rattle.pad_client.specs.declared.sync_refused.SyncRefused.{SyncRefused}
use Rattle.pad_client.specs.declared.sync_refused.SyncRefused.TheVariants.{Full}
use Rattle.pad_client.specs.State.{ClientState, with_requests}
use Rattle.pad_client.specs.Calls.{Edits, with_interval}
use Rattle.pad_client.specs.Hear.{Hears, IsRefused}
use Rattle.pad_client.specs.Refusal.{IsEditCause, IsSyncCause}
use Rattle.pad_client.specs.Repair.{BeginsRepair}
use Rattle.pad_client.specs.Report.{IsClientReport, shown}
use Rattle.pad_client.specs.Sync.{Syncs, DiffersAfterSync, own_messages}
use Rattle.pad_client.specs.View.{View, StandsAs, DiffersAfter}
use Rattle.client_script.specs.declared.hearing.Hearing.{Hearing}
use Rattle.client_script.specs.declared.hearing.Hearing.TheVariants as hearing
use Rattle.client_script.specs.Hearing.{hearing_after}
use Rattle.client_script.specs.State.{Scripted}
use Rattle.client_script.specs.Words.{call_name, edit_name, sync_name, refused_line, heard_lines}

-- ---- why a line's call is refused, by the name of the refusal

-- a request is, for one of these causes
abbrev pub IsCallRefusal : (Cause : ClientRefused → Type 0) → List ℕ → Type 0
IsCallRefusal Cause name = (refused : ClientRefused) × Cause refused × (call_name refused ≡ Some name)

abbrev pub IsRefusal : ClientState → Act → List ℕ → Type 0
IsRefusal client (act.Join channel) name = IsCallRefusal (IsJoinCause client.requests channel) name
IsRefusal client act.Leave name = IsCallRefusal (IsOpenCause client.requests) name
IsRefusal client (act.History from) name = IsCallRefusal (IsAskCause client.requests) name
IsRefusal client (act.Edit operation) name = (refused : EditRefused) × IsEditCause client.requests (shown client) operation refused × (edit_name refused ≡ Some name)
IsRefusal client act.Sync name = (refused : SyncRefused) × IsSyncCause client refused × (sync_name refused ≡ Some name)
IsRefusal client act.Resend name = IsCallRefusal (IsOpenCause client.requests) name
IsRefusal client act.Settle name = ⊥
IsRefusal client (act.Hear count) name = ⊥
IsRefusal client act.Repair name = IsCallRefusal (IsAskCause client.requests) name
IsRefusal client (act.Interval messages) name = ⊥
IsRefusal client act.Show name = ⊥

-- ---- what a line does: the texts that it sends, what it writes, and what it hears for

abbrev pub hears_for : ClientState → Hearing → Scripted
hears_for client wanted = record { client = client; hearing = wanted }

pub data DoesLine (client : ClientState) (line : ℕ) : Act → (texts : List (List ℕ)) → (lines : List ℕ) → Scripted → Type 0 where
  -- the call is refused: that is written, and the run goes on
  is_refused : (does : Act) (name : List ℕ) → IsRefusal client does name → DoesLine client line does [] (refused_line line name) (hears_for client hearing.Nothing)
  -- a request is sent, and its answer heard
  joins : (channel wire : List ℕ) (requests : requested.State) → Joins client.requests channel wire requests
      → DoesLine client line (act.Join channel) (wire ∷ []) [] (hears_for (with_requests requests client) (hearing.Join requests.last))
  leaves : (wire : List ℕ) (requests : requested.State) → Leaves client.requests wire requests
      → DoesLine client line act.Leave (wire ∷ []) [] (hears_for (with_requests requests client) (hearing.Leave requests.last))
  asks : (from : Since) (wire : List ℕ) (requests : requested.State) → Asks client.requests from wire requests
      → DoesLine client line (act.History from) (wire ∷ []) [] (hears_for (with_requests requests client) (hearing.History requests.last))
  repairs : (wire : List ℕ) (after : ClientState) → BeginsRepair client wire after
      → DoesLine client line act.Repair (wire ∷ []) [] (hears_for after (hearing.Repair after.requests.last))
  -- own messages are sent, and nothing is heard
  syncs : (wires : List (List ℕ)) (after : ClientState) → Syncs client wires after → DoesLine client line act.Sync wires [] (hears_for after hearing.Nothing)
  resends : (wires : List (List ℕ)) (requests : requested.State) → Resends client.requests wires requests
      → DoesLine client line act.Resend wires [] (hears_for (with_requests requests client) hearing.Nothing)
  -- nothing is sent
  edits : (operation : Operation) (after : ClientState) → Edits (committed client.copy.pad) client operation after → DoesLine client line (act.Edit operation) [] [] (hears_for after hearing.Nothing)
  settles : DoesLine client line act.Settle [] [] (hears_for client hearing.Settle)
  hears : (count : ℕ) → DoesLine client line (act.Hear count) [] [] (hears_for client (hearing.Texts count))
  sets : (messages : ℕ) → DoesLine client line (act.Interval messages) [] [] (hears_for (with_interval messages client) hearing.Nothing)
  shows : (report : List ℕ) → IsClientReport client report → DoesLine client line act.Show [] report (hears_for client hearing.Nothing)

abbrev pub Does : Scripted → Command Act → (texts : List (List ℕ)) → (lines : List ℕ) → Scripted → Type 0
Does before command texts lines after = DoesLine before.client command.line command.act texts lines after

-- ---- what a text that is heard does

pub record HearsText (before : Scripted) (text lines : List ℕ) (after : Scripted) : Type 0 where
  pub answer : Heard
  pub client : ClientState
  pub hears : Hears before.client text answer client
  pub told : lines ≡ heard_lines answer
  pub state : after ≡ record { client = client; hearing = hearing_after before.hearing answer }

-- ---- more names than there may be

abbrev pub OverfillsBy : ClientState → Act → Type 0
OverfillsBy client act.Sync = IsSyncCause client Full
OverfillsBy client _ = ⊥

abbrev pub Overfills : Scripted → Command Act → Type 0
Overfills state command = OverfillsBy state.client command.act

abbrev pub Overflows : Scripted → List ℕ → Type 0
Overflows state text = IsRefused state.client text

-- ---- the premise: no two different messages that the client ever received or made have one name

abbrev pub MayDoLine : ClientState → Act → Type 0
MayDoLine client act.Sync = DiffersAfterSync client
MayDoLine client act.Repair = NoClash (own_messages client.requests.outbox ++ client.copy.pad.all)
MayDoLine client _ = Unit {0}

abbrev pub MayDo : Scripted → Command Act → Type 0
MayDo state command = MayDoLine state.client command.act

abbrev pub MayHear : Scripted → List ℕ → Type 0
MayHear state text = DiffersAfter state.client text

-- ---- what the lines of a script ask for

-- an interval is one that a checkpoint may have
abbrev pub HasItsInterval : Act → Type 0
HasItsInterval (act.Interval messages) = IsInterval messages
HasItsInterval _ = Unit {0}

-- each command of the list sets such an interval, if it sets one
abbrev pub HaveIntervals : List (Command Act) → Type 0
HaveIntervals [] = Unit {0}
HaveIntervals (command ∷ commands) = HasItsInterval command.act × HaveIntervals commands

-- a client has numbers left for the requests and the edits of these lines
pub record Lasts (client : View) (commands : List (Command Act)) : Type 0 where
  pub intervals : HaveIntervals commands
  pub requests : client.requests.last + MOST_EACH * request_lines makes_requests commands < MOST_REQUESTS
  pub strokes : client.copy.strokes + length commands < 2 ^ 64 - 1
