-- A call that was done or refused in memory stands for one of the definition.
use Rattle.std.proofs.Common.{◌≡◌, ◌∙◌, ◌⊎◌, ◌++◌, ◌∷◌, [], ℕ, ◌≤◌, ◌+◌, arith, Bool, true, false, if◌then◌else◌, List, Result, Ok, Err, inl, inr, refl, sym, ap, subst}
use Rattle.std.proofs.lemmas.List.{append-nil}
use Rattle.std.specs.Result.{IfOk, IfErr, OnErr, MatchResult}
use Rattle.pad_patch.specs.Piece.{text_after}
use Rattle.pad_patch.specs.declared.operation.Operation.{Operation}
use Rattle.pad_stroke.specs.Work.{Marked}
use Rattle.client_copy.specs.Pad.{committed}
use Rattle.client_requests.specs.State as requested
use Rattle.client_requests.specs.declared.client_refused.ClientRefused.{ClientRefused}
use Rattle.client_requests.specs.Calls.{without_connection}
use Rattle.client_requests.specs.Refusal.{IsAskCause}
use Rattle.pad_client.specs.State as clients
use Rattle.pad_client.specs.State.{ClientState, with_requests}
use Rattle.pad_client.specs.Refusal.{IsEditCause, IsNoMemory}
use Rattle.pad_client.specs.Report.{shown}
use Rattle.pad_client.specs.Repair.{BeginsRepair, with_answered}
use Rattle.pad_client.specs.declared.edit_refused.EditRefused.{EditRefused}
use Rattle.pad_client.specs.declared.sync_refused.SyncRefused.{SyncRefused}
use Rattle.pad_client.specs.declared.sync_refused.SyncRefused.TheVariants as sync
use Rattle.pad_client.specs.View as views
use Rattle.pad_seat.specs.State.{State, SeatState, View, StandsAs, without_seat}
use Rattle.pad_seat.specs.Texts.{sends}
use Rattle.pad_seat.specs.Lines.{refused_line, call_word}
use Rattle.pad_seat.specs.Calls.{IsCause, IsToldSync, Calls, done, refused_by, Requests, DoesRepair, GivesOut}

-- a client stands for the state after what touches its requests alone
pub requested_stands : (held : views.View) (client : ClientState) (next : requested.State) → views.StandsAs held client
    → views.StandsAs (with_requests next held) (with_requests next client)
requested_stands held client next stands = record {
  copy = stands.copy;
  unreadable = stands.unreadable;
  wanted = stands.wanted;
  requests = refl;
  repair = stands.repair;
  synced = stands.synced;
}

module _ {E : Type 0} (is_told is_cause : E → Type 0) (word : E → List ℕ) (line : ℕ) where
  -- the client has done it, and its texts were put on their way
  pub was_done : (does : List (List ℕ) → ClientState → Type 0) (held new : View) (client : views.View) (seat : SeatState) (texts : List (List ℕ)) (printed : List ℕ) (after : ClientState)
      → StandsAs held seat → does texts after → views.StandsAs client after → printed ≡ [] → new ≡ sends (record held { client = client }) texts
      → (next : SeatState) × Calls line seat does is_told is_cause word printed next × StandsAs new next
  was_done does held new client seat texts printed after stands done_so client_stands quiet sent =
      let next : SeatState = sends (record seat { client = after }) texts in (
        next,
        subst (λ (p : List ℕ). Calls line seat does is_told is_cause word p next) (sym quiet) (done texts after done_so),
        subst (λ (v : View). StandsAs v next) (sym sent)
            (record { client = client_stands; connected = stands.connected; up = ap (λ (up : List (List ℕ)). up ++ texts) stands.up; down = stands.down }),
      )

  -- it was refused, and nothing was changed
  pub was_refused : (does : List (List ℕ) → ClientState → Type 0) (held new : View) (seat : SeatState) (cause : E) (printed : List ℕ)
      → StandsAs held seat → is_told cause → is_cause cause → printed ≡ refused_line line (word cause) → new ≡ held
      → (next : SeatState) × Calls line seat does is_told is_cause word printed next × StandsAs new next
  was_refused does held new seat cause printed stands told is says same = (
    seat,
    subst (λ (p : List ℕ). Calls line seat does is_told is_cause word p seat) (sym says) (refused_by cause told is),
    subst (λ (v : View). StandsAs v seat) (sym same) stands,
  )

-- a request that is one text was made or refused
pub answered : (makes : requested.State → List ℕ → requested.State → Type 0) (is_cause : requested.State → ClientRefused → Type 0) (line : ℕ)
    (held new : View) (client : views.View) (seat : SeatState) (made : Result (List ℕ) ClientRefused) (printed : List ℕ)
    → StandsAs held seat
    → IfOk made (λ wire. (requests : requested.State) × makes held.client.requests wire requests × (client ≡ with_requests requests held.client))
    → IfErr made (is_cause held.client.requests)
    → OnErr made (client ≡ held.client)
    → MatchResult made (λ text. (printed ≡ []) × (new ≡ sends (record held { client = client }) (text ∷ [])))
    (λ refused. IsCause refused × (printed ≡ refused_line line (call_word refused)) × (new ≡ record held { client = client }))
    → (after : SeatState) × Calls line seat (Requests makes seat.client) IsCause (is_cause seat.client.requests) call_word printed after × StandsAs new after
answered makes is_cause line held new client seat (Ok text) printed stands is cause still so =
    let requests = is.0 in
    was_done IsCause (is_cause seat.client.requests) call_word line (Requests makes seat.client) held new client seat (text ∷ []) printed (with_requests requests seat.client) stands
    (text, requests, subst (λ (r : requested.State). makes r text requests) stands.client.requests is.1, refl, refl)
    (subst (λ (v : views.View). views.StandsAs v (with_requests requests seat.client)) (sym is.2) (requested_stands held.client seat.client requests stands.client))
    so.0 so.1
answered makes is_cause line held new client seat (Err refused) printed stands is cause still so =
    was_refused IsCause (is_cause seat.client.requests) call_word line (Requests makes seat.client) held new seat refused printed stands so.0
    (subst (λ (r : requested.State). is_cause r refused) stands.client.requests cause) so.1
    (so.2 ∙ ap (λ (c : views.View). record held { client = c }) still)

-- nothing is sent
pub sends_nothing : (held : View) → held ≡ sends held []
sends_nothing held = ap (λ (up : List (List ℕ)). record held { up = up }) (sym (append-nil held.up))

-- a repair was begun or refused
pub repairs : (line : ℕ) (held new : View) (client : views.View) (seat : SeatState) (made : Result (List ℕ) ClientRefused) (printed : List ℕ)
    → StandsAs held seat
    → IfOk made (λ wire. (after : ClientState) × BeginsRepair seat.client wire after × views.StandsAs client after)
    → IfErr made (IsAskCause held.client.requests)
    → OnErr made (client ≡ held.client)
    → MatchResult made (λ text. (printed ≡ []) × (new ≡ sends (record held { client = client }) (text ∷ [])))
    (λ refused. IsCause refused × (printed ≡ refused_line line (call_word refused)) × (new ≡ record held { client = client }))
    → (after : SeatState) × DoesRepair line seat printed after × StandsAs new after
repairs line held new client seat (Ok text) printed stands begins cause still so =
    was_done IsCause (IsAskCause seat.client.requests) call_word line (λ texts client. (text : List ℕ) × BeginsRepair seat.client text client × (texts ≡ text ∷ []))
    held new client seat (text ∷ []) printed begins.0 stands (text, begins.1, refl) begins.2 so.0 so.1
repairs line held new client seat (Err refused) printed stands begins cause still so =
    was_refused IsCause (IsAskCause seat.client.requests) call_word line (λ texts client. (text : List ℕ) × BeginsRepair seat.client text client × (texts ≡ text ∷ []))
    held new seat refused printed stands so.0 (subst (λ (r : requested.State). IsAskCause r refused) stands.client.requests cause) so.1
    (so.2 ∙ ap (λ (c : views.View). record held { client = c }) still)

-- a sync that is told met no want of memory
pub is_no_want : (refused : SyncRefused) → IsToldSync refused → IsNoMemory refused → ⊥
is_no_want sync.Repairing told want = want
is_no_want sync.NotJoined told want = want
is_no_want sync.TooLong told want = want
is_no_want sync.OutboxFull told want = want
is_no_want sync.Full told want = want
is_no_want (sync.NoMemory error) told want = told

-- so nothing was changed
pub sync_still : {T : Type 0} (refused : SyncRefused) (old new : T) → IsToldSync refused → (new ≡ old) ⊎ IsNoMemory refused → new ≡ old
sync_still refused old new told (inl same) = same
sync_still refused old new told (inr want) = absurd (is_no_want refused told want)

-- at `Full` nothing was changed either
pub full_still : {T : Type 0} (refused : SyncRefused) (old new : T) → refused ≡ sync.Full → (new ≡ old) ⊎ IsNoMemory refused → new ≡ old
full_still refused old new full (inl same) = same
full_still refused old new full (inr want) = absurd (subst IsNoMemory full want)

-- one that has lost its connection
lost_client : (held : views.View) (client : ClientState) → views.StandsAs held client
    → views.StandsAs (with_answered (without_connection held.requests) held) (with_answered (without_connection client.requests) client)
lost_client held client stands = record {
  copy = stands.copy;
  unreadable = stands.unreadable;
  wanted = stands.wanted;
  requests = ap without_connection stands.requests;
  repair = tt;
  synced = stands.synced;
}

abbrev without : {C R : Type 0} → State (clients.State C R) → Bool → State (clients.State C R)
without seat connected = if connected
    then record { client = with_answered (without_connection seat.client.requests) seat.client; connected = false; up = []; down = [] }
    else seat

lost_if : (held : View) (seat : SeatState) (connected : Bool) → StandsAs held seat → StandsAs (without held connected) (without seat connected)
lost_if held seat true stands = record { client = lost_client held.client seat.client stands.client; connected = refl; up = refl; down = refl }
lost_if held seat false stands = stands

pub loses : (held : View) (seat : SeatState) → StandsAs held seat → StandsAs (without_seat held) (without_seat seat)
loses held seat stands = subst (λ (connected : Bool). StandsAs (without_seat held) (without seat connected)) stands.connected (lost_if held seat held.connected stands)

-- why an edit in memory is refused is why it is refused by the definition
pub edit_cause : (held : views.View) (client : ClientState) (operation : Operation) (cause : EditRefused) → views.StandsAs held client
    → held.copy.pad.chain.branch.branch.units ≡ committed client.copy.pad
    → IsEditCause held.requests (text_after held.copy.work.patch held.copy.pad.chain.branch.branch.units) operation cause → IsEditCause client.requests (shown client) operation cause
edit_cause held client operation cause stands same is =
    subst (λ (r : requested.State). IsEditCause r (shown client) operation cause) stands.requests
    (subst (λ (t : List ℕ). IsEditCause held.requests (text_after client.copy.work.patch t) operation cause) same
    (subst (λ (w : Marked). IsEditCause held.requests (text_after w.patch held.copy.pad.chain.branch.branch.units) operation cause) stands.copy.work is))

-- ---- numbers

-- what gives out so many numbers of a client, and sends texts, gives out so many of its seat
pub counted : (requests strokes : ℕ) (held new : View) (client : views.View) (texts : List (List ℕ))
    → client.requests.last ≤ held.client.requests.last + requests → client.copy.strokes ≤ held.client.copy.strokes + strokes
    → new ≡ sends (record held { client = client }) texts → GivesOut requests strokes held new
counted requests strokes held new client texts last many sent = subst (GivesOut requests strokes held) (sym sent) (last, many)

-- what is as before gave none out
pub counted_none : (requests strokes : ℕ) (held new : View) → new ≡ held → GivesOut requests strokes held new
counted_none requests strokes held new same = subst (GivesOut requests strokes held) (sym same) (omega (arith), omega (arith))

-- a request that is one text was made or refused
pub counted_one : (line : ℕ) (held new : View) (client : views.View) (made : Result (List ℕ) ClientRefused) (printed : List ℕ)
    → client.requests.last ≤ held.client.requests.last + 1 → client.copy.strokes ≡ held.client.copy.strokes
    → MatchResult made (λ text. (printed ≡ []) × (new ≡ sends (record held { client = client }) (text ∷ [])))
    (λ refused. IsCause refused × (printed ≡ refused_line line (call_word refused)) × (new ≡ record held { client = client }))
    → GivesOut 1 0 held new
counted_one line held new client (Ok text) printed last strokes so = counted 1 0 held new client (text ∷ []) last (omega (arith, strokes)) so.1
counted_one line held new client (Err refused) printed last strokes so = subst (GivesOut 1 0 held) (sym so.2) (last, omega (arith, strokes))

-- a call that makes the requests others under one more number, or leaves the client
pub one_more : (makes : requested.State → List ℕ → requested.State → Type 0) (held client : views.View) (made : Result (List ℕ) ClientRefused)
    → ((text : List ℕ) (next : requested.State) → makes held.requests text next → next.last ≡ held.requests.last + 1)
    → IfOk made (λ wire. (requests : requested.State) × makes held.requests wire requests × (client ≡ with_requests requests held))
    → OnErr made (client ≡ held)
    → (client.requests.last ≤ held.requests.last + 1) × (client.copy.strokes ≡ held.copy.strokes)
one_more makes held client (Ok text) grows is still =
    let last = ap (λ (c : views.View). c.requests.last) is.2 in
    (omega (arith, last, grows text is.0 is.1), ap (λ (c : views.View). c.copy.strokes) is.2)
one_more makes held client (Err refused) grows is still =
    let last = ap (λ (c : views.View). c.requests.last) still in
    (omega (arith, last), ap (λ (c : views.View). c.copy.strokes) still)
