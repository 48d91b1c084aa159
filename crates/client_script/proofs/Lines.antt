-- What a line does, from what the client's call does.
use Rattle.std.proofs.Common.{◌≡◌, ℕ, Some, List, [], ◌∷◌, ◌∙◌, ◌⊎◌, inl, inr, ap, refl, subst}
use Rattle.std.specs.Prelude.{Result, Ok, Err, IfOk}
use Rattle.pad_patch.specs.declared.operation.Operation.{Operation}
use Rattle.netflux_codec.specs.declared.since.Since.{Since}
use Rattle.pad_script.specs.declared.act.Act.{Act}
use Rattle.pad_script.specs.declared.act.Act.TheVariants as act
use Rattle.client_requests.specs.State as requested
use Rattle.client_requests.specs.Calls.{Joins, Leaves, Asks, Resends}
use Rattle.client_requests.specs.Refusal.{IsJoinCause, IsOpenCause, IsAskCause}
use Rattle.client_requests.specs.declared.client_refused.ClientRefused.{ClientRefused}
use Rattle.pad_stroke.specs.Work.{Marked}
use Rattle.pad_patch.specs.Piece.{text_after}
use Rattle.client_copy.specs.Pad.{committed}
use Rattle.pad_client.specs.declared.edit_refused.EditRefused.{EditRefused}
use Rattle.pad_client.specs.declared.heard.Heard.{Heard}
use Rattle.pad_client.specs.Calls.{Edits, with_interval}
use Rattle.pad_client.specs.Hear.{Hears}
use Rattle.pad_client.specs.declared.sync_refused.SyncRefused.{SyncRefused}
use Rattle.pad_client.specs.declared.sync_refused.SyncRefused.TheVariants as sync
use Rattle.pad_client.specs.Refusal.{IsEditCause, IsNoMemory}
use Rattle.pad_client.specs.Repair.{BeginsRepair}
use Rattle.pad_client.specs.Report.{IsClientReport, shown}
use Rattle.pad_client.specs.Sync.{Syncs}
use Rattle.pad_client.specs.State.{ClientState, with_requests}
use Rattle.pad_client.specs.View.{View, StandsAs}
use Rattle.client_script.specs.declared.hearing.Hearing.{Hearing}
use Rattle.client_script.specs.declared.hearing.Hearing.TheVariants as hearing
use Rattle.client_script.specs.State.{Scripted}
use Rattle.client_script.specs.Script.{DoesLine, HearsText, IsRefusal, IsCallRefusal, hears_for, is_refused, joins, leaves, asks, repairs, syncs, resends, edits, settles, hears, sets, shows}
use Rattle.client_script.specs.View.{StandsFor}
use Rattle.client_script.specs.Words.{call_name, sync_name, refused_line, heard_lines}
use Rattle.client_script.specs.Hearing.{hearing_after}

-- ---- a client with other requests stands for the state with these

pub with_stands : (held : View) (client : ClientState) (requests : requested.State) → StandsAs held client → StandsAs (with_requests requests held) (with_requests requests client)
with_stands held client requests stands = record {
  copy = stands.copy;
  unreadable = stands.unreadable;
  wanted = stands.wanted;
  requests = refl;
  repair = stands.repair;
  synced = stands.synced;
}

-- what a line comes to: the texts, the lines, and what the client stands for then
abbrev pub Comes : ClientState → ℕ → Act → (texts : List (List ℕ)) → (lines : List ℕ) → View → Hearing → Type 0
Comes client line does texts lines held waits = (after : Scripted) × DoesLine client line does texts lines after × StandsFor held waits after

-- the same, said of what is equal
pub comes_so : {client : ClientState} {line : ℕ} {does : Act} {texts said_texts : List (List ℕ)} {lines said_lines : List ℕ} {held now : View} {waits waits_now : Hearing}
    → Comes client line does texts lines held waits → said_texts ≡ texts → said_lines ≡ lines → now ≡ held → waits_now ≡ waits
    → Comes client line does said_texts said_lines now waits_now
comes_so comes texts_are lines_are held_is waits_is = rw texts_are (rw lines_are (rw held_is (rw waits_is comes)))

-- what holds of a value in two parts
pub both_ok : {T E : Type 0} {A B C : T → Type 0} (told : Result T E) → IfOk told A → IfOk told B → ((value : T) → A value → B value → C value) → IfOk told C
both_ok (Ok value) first second both = both value first second
both_ok (Err error) first second both = tt

-- ---- calls that are done

pub joined : (held : View) (client : ClientState) (line : ℕ) (channel wire : List ℕ) (requests : requested.State) → StandsAs held client → Joins held.requests channel wire requests
    → Comes client line (act.Join channel) (wire ∷ []) [] (with_requests requests held) (hearing.Join requests.last)
joined held client line channel wire requests stands done = (
  hears_for (with_requests requests client) (hearing.Join requests.last),
  joins channel wire requests (subst (λ (r : requested.State). Joins r channel wire requests) stands.requests done),
  record { client = with_stands held client requests stands; hearing = refl },
)

pub left : (held : View) (client : ClientState) (line : ℕ) (wire : List ℕ) (requests : requested.State) → StandsAs held client → Leaves held.requests wire requests
    → Comes client line act.Leave (wire ∷ []) [] (with_requests requests held) (hearing.Leave requests.last)
left held client line wire requests stands done = (
  hears_for (with_requests requests client) (hearing.Leave requests.last),
  leaves wire requests (subst (λ (r : requested.State). Leaves r wire requests) stands.requests done),
  record { client = with_stands held client requests stands; hearing = refl },
)

pub asked : (held : View) (client : ClientState) (line : ℕ) (from : Since) (wire : List ℕ) (requests : requested.State) → StandsAs held client → Asks held.requests from wire requests
    → Comes client line (act.History from) (wire ∷ []) [] (with_requests requests held) (hearing.History requests.last)
asked held client line from wire requests stands done = (
  hears_for (with_requests requests client) (hearing.History requests.last),
  asks from wire requests (subst (λ (r : requested.State). Asks r from wire requests) stands.requests done),
  record { client = with_stands held client requests stands; hearing = refl },
)

pub sent_again : (held : View) (client : ClientState) (line : ℕ) (wires : List (List ℕ)) (requests : requested.State) → StandsAs held client → Resends held.requests wires requests
    → Comes client line act.Resend wires [] (with_requests requests held) hearing.Nothing
sent_again held client line wires requests stands done = (
  hears_for (with_requests requests client) hearing.Nothing,
  resends wires requests (subst (λ (r : requested.State). Resends r wires requests) stands.requests done),
  record { client = with_stands held client requests stands; hearing = refl },
)

pub repaired : {now : View} (client : ClientState) (line : ℕ) (wire : List ℕ) (after : ClientState) → BeginsRepair client wire after → StandsAs now after
    → Comes client line act.Repair (wire ∷ []) [] now (hearing.Repair after.requests.last)
repaired client line wire after begins stands = (hears_for after (hearing.Repair after.requests.last), repairs wire after begins, record { client = stands; hearing = refl })

pub synced : {now : View} (client : ClientState) (line : ℕ) (wires : List (List ℕ)) (after : ClientState) → Syncs client wires after → StandsAs now after
    → Comes client line act.Sync wires [] now hearing.Nothing
synced client line wires after done stands = (hears_for after hearing.Nothing, syncs wires after done, record { client = stands; hearing = refl })

pub edited : {now : View} (client : ClientState) (line : ℕ) (operation : Operation) (after : ClientState) → Edits (committed client.copy.pad) client operation after → StandsAs now after
    → Comes client line (act.Edit operation) [] [] now hearing.Nothing
edited client line operation after done stands = (hears_for after hearing.Nothing, edits operation after done, record { client = stands; hearing = refl })

-- an edit of what contracts see of the shown text is refused for the cause that the shown text has
pub edit_cause : {text : List ℕ} (refused : EditRefused) (held : View) (client : ClientState) (operation : Operation) → StandsAs held client → text ≡ committed client.copy.pad
    → IsEditCause held.requests (text_after held.copy.work.patch text) operation refused → IsEditCause client.requests (shown client) operation refused
edit_cause {text} refused held client operation stands is cause =
    subst (λ (r : requested.State). IsEditCause r (shown client) operation refused) stands.requests
    (subst (λ (t : List ℕ). IsEditCause held.requests t operation refused)
    (ap (λ (w : Marked). text_after w.patch text) stands.copy.work ∙ ap (λ (t : List ℕ). text_after client.copy.work.patch t) is) cause)

-- ---- calls that are refused

pub refused_for : (held : View) (client : ClientState) (line : ℕ) (does : Act) (name : List ℕ) → StandsAs held client → IsRefusal client does name
    → Comes client line does [] (refused_line line name) held hearing.Nothing
refused_for held client line does name stands is = (hears_for client hearing.Nothing, is_refused does name is, record { client = stands; hearing = refl })

-- a refused sync with a name changes nothing
pub kept_unless_memory : {name : List ℕ} {old now : View} (refused : SyncRefused) → sync_name refused ≡ Some name → (now ≡ old) ⊎ IsNoMemory refused → now ≡ old
kept_unless_memory refused named (inl kept) = kept
kept_unless_memory sync.Repairing named (inr memory) = absurd memory
kept_unless_memory sync.NotJoined named (inr memory) = absurd memory
kept_unless_memory sync.TooLong named (inr memory) = absurd memory
kept_unless_memory sync.OutboxFull named (inr memory) = absurd memory
kept_unless_memory sync.Full named (inr memory) = absurd memory
kept_unless_memory (sync.NoMemory error) named (inr memory) = cc

-- ---- lines that make no request

pub settled : {now : View} (client : ClientState) (line : ℕ) → StandsAs now client → Comes client line act.Settle [] [] now hearing.Settle
settled client line stands = (hears_for client hearing.Settle, settles, record { client = stands; hearing = refl })

pub heard_on : {now : View} (client : ClientState) (line count : ℕ) → StandsAs now client → Comes client line (act.Hear count) [] [] now (hearing.Texts count)
heard_on client line count stands = (hears_for client (hearing.Texts count), hears count, record { client = stands; hearing = refl })

pub set_so : {now : View} (client : ClientState) (line messages : ℕ) → StandsAs now client → Comes client line (act.Interval messages) [] [] (with_interval messages now) hearing.Nothing
set_so client line messages stands = (
  hears_for (with_interval messages client) hearing.Nothing,
  sets messages,
  record {
    client = record {
      copy = stands.copy;
      unreadable = stands.unreadable;
      wanted = refl;
      requests = stands.requests;
      repair = stands.repair;
      synced = stands.synced;
    };
    hearing = refl;
  },
)

pub shown_so : {now : View} (client : ClientState) (line : ℕ) (report : List ℕ) → IsClientReport client report → StandsAs now client → Comes client line act.Show [] report now hearing.Nothing
shown_so client line report is stands = (hears_for client hearing.Nothing, shows report is, record { client = stands; hearing = refl })

-- ---- a text that is heard

pub heard_so : {held : View} {text lines : List ℕ} {waits waits_now : Hearing} (state : Scripted) (answer : Heard) (client : ClientState) → Hears state.client text answer client
    → lines ≡ heard_lines answer → waits_now ≡ hearing_after waits answer → waits ≡ state.hearing → StandsAs held client
    → (next : Scripted) × HearsText state text lines next × StandsFor held waits_now next
heard_so state answer client heard told waits_are waits_is stands = (
  record { client = client; hearing = hearing_after state.hearing answer },
  record { answer = answer; client = client; hears = heard; told = told; state = refl },
  record { client = stands; hearing = waits_are ∙ ap (λ (w : Hearing). hearing_after w answer) waits_is },
)
