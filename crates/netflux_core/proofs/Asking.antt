-- A question to the keeper: what was read is what the machine reads.
use Rattle.std.proofs.Common.{◌≡◌, ◌∙◌, inr, ◌≤◌, ℕ, ◌+◌, ◌-◌, ◌^◌, min, List, Result, Ok, Err, MatchResult, refl, sym, ap, subst}
use Rattle.disk_volume.specs.Disk.{Disk, reads}
use Rattle.keeper_channel.specs.declared.refused.KeeperRefused.{KeeperRefused}
use Rattle.keeper_state.specs.State.{State, unseen, live, again, Found, Answers, AnswersByReading, ReadRefused, HasPlace, Reaches}
use Rattle.keeper_table.specs.declared.span.Span.{Span}
use Rattle.netflux_codec.specs.declared.ask.Ask.{Ask}
use Rattle.netflux_rooms.specs.Machine.{asks}
use Rattle.netflux_rooms.specs.Rooms.{Identities}
use Rattle.netflux_rooms.specs.declared.room_hub.RoomHub.{RoomHub}
use Rattle.serve_loop.specs.declared.out.Out.{Out}
use Rattle.netflux_core.specs.Channels.{Channels, IsNow, loaded_after}
use Rattle.netflux_core.specs.Crashes.{ChannelLogs, HoldsNow, LeavesAsked}
use Rattle.netflux_core.specs.Histories.{channel_of, span_for, answered}
use Rattle.netflux_core.specs.Inside.Ends.{Ends}
use Rattle.netflux_core.specs.Machine.{ServeState, AskGives, BreaksBy, StandsFor}
use Rattle.netflux_core.specs.Words.{failures_after}
use Rattle.netflux_core.proofs.Changing.{IsSeenAs, seen_live, seen_again, seen_refused, now_then}

-- What crashes leave after a channel was loaded they leave after entries of it were read.
pub read_leaves : (logs : ChannelLogs) (before : Channels) (channel : List ℕ) (held suspense : List (List ℕ)) (after : State) (old new : Disk) → IsSeenAs held suspense after
    → LeavesAsked logs before channel (live held suspense) old new → LeavesAsked logs before channel after old new
read_leaves logs before channel held suspense after old new seen leaves = record {
  digits = leaves.digits;
  syncs = leaves.syncs;
  each = leaves.each;
  after = by after seen;
}
  where
    by : (after : State) → IsSeenAs held suspense after → HoldsNow logs channel (reads old) after new
    by unseen seen = elim seen [ ]
    by (live h s) seen_live = leaves.after
    by (again h s) seen_again = leaves.after

-- A span was found, and then entries were read or refused: the question was answered by reading.
module _ {T : Type 0} (items : T → List Out) (logs : ChannelLogs) (keeps keeps_after : Channels → Disk → Type 0) (before : Channels) (keeper : List ℕ) (number seq : ℕ) (ask : Ask) (old mid new : Disk) where
  -- what was read of a list
  abbrev pub IsTold : Channels → (held suspense : List (List ℕ)) → Result T KeeperRefused → Type 0
  IsTold now held suspense result = MatchResult result (λ outs. (items outs ≡ answered keeper number seq ask held) × IsNow keeps_after now (channel_of ask) (live held suspense) new)
      (λ why. (after : State) × ReadRefused held suspense why after × IsNow keeps_after now (channel_of ask) after new)

  -- what is said of the answer
  abbrev pub IsRead : Result T KeeperRefused → State → Type 0
  IsRead result after = AnswersByReading (logs.finds (channel_of ask) (reads old)) before.loaded (before.at (channel_of ask)) (λ held outs. items outs ≡ answered keeper number seq ask held) result after

  read_by : (held suspense : List (List ℕ)) → HasPlace before.loaded (before.at (channel_of ask)) → Reaches (logs.finds (channel_of ask) (reads old)) (before.at (channel_of ask)) held suspense
      → (is : IsNow keeps before (channel_of ask) (live held suspense) mid) → LeavesAsked logs before (channel_of ask) (live held suspense) old new
      → (result : Result T KeeperRefused) → IsTold is.now held suspense result
      → (after : State) × IsRead result after × IsNow keeps_after before (channel_of ask) after new × LeavesAsked logs before (channel_of ask) after old new
  read_by held suspense place reached is leaves (Ok outs) told = (
    live held suspense,
    (place, held, suspense, reached, (told.0, refl)),
    now_then keeps_after before is.now (channel_of ask) held suspense (live held suspense) new seen_live is.changes told.1,
    leaves,
  )
  read_by held suspense place reached is leaves (Err why) told = (
    told.0,
    inr (place, held, suspense, reached, told.1),
    now_then keeps_after before is.now (channel_of ask) held suspense told.0 new (seen_refused held suspense why told.0 told.1) is.changes told.2,
    read_leaves logs before (channel_of ask) held suspense told.0 old new (seen_refused held suspense why told.0 told.1) leaves,
  )

  pub read_ends : (from : Span) (next : State)
      → Answers (logs.finds (channel_of ask) (reads old)) before.loaded (before.at (channel_of ask)) (λ held span. span ≡ span_for ask held) (Ok from) next
      → (is : IsNow keeps before (channel_of ask) next mid) → LeavesAsked logs before (channel_of ask) next old mid → new ≡ mid
      → (result : Result T KeeperRefused) → ((held suspense : List (List ℕ)) → is.now.at (channel_of ask) ≡ live held suspense → from ≡ span_for ask held → IsTold is.now held suspense result)
      → (after : State) × IsRead result after × IsNow keeps_after before (channel_of ask) after new × LeavesAsked logs before (channel_of ask) after old new
  read_ends from next answers is leaves same result told = read_by answers.1 answers.2 answers.0 answers.3
      (record { now = is.now; changes = record { this = is.changes.this ∙ answers.4.1; others = is.changes.others; loaded = is.changes.loaded ∙ ap (λ (s : State). loaded_after before.loaded (before.at (channel_of ask)) s) answers.4.1 }; kept = is.kept })
      (subst (λ (s : State). LeavesAsked logs before (channel_of ask) s old new) answers.4.1 (subst (λ (d : Disk). LeavesAsked logs before (channel_of ask) next old d) (sym same) leaves))
      result (told answers.1 answers.2 (is.changes.this ∙ answers.4.1) answers.4.0)

-- the list of which an answer was read
pub told_held : {T : Type 0} (items : T → List Out) (finds : Found → Type 0) (loaded : ℕ) (state : State) (keeper : List ℕ) (number seq : ℕ) (ask : Ask) (result : Result T KeeperRefused) (outs : T) (next : State)
    → result ≡ Ok outs → AnswersByReading finds loaded state (λ held told. items told ≡ answered keeper number seq ask held) result next
    → (held : List (List ℕ)) × (items outs ≡ answered keeper number seq ask held) × AnswersByReading finds loaded state (λ held told. told ≡ held) (Ok held) next
told_held items finds loaded state keeper number seq ask result outs next is read =
    let whole = subst (λ r. AnswersByReading finds loaded state (λ held told. items told ≡ answered keeper number seq ask held) r next) is read in
    (whole.1, whole.4.0, (whole.0, whole.1, whole.2, whole.3, (refl, whole.4.1)))

module _ (logs : ChannelLogs) (keeps_old keeps : Channels → Disk → Type 0) (identities : Identities) (hub : RoomHub) (first faults_old faults : ℕ) (state : ServeState)
    (moment number seq : ℕ) (ask : Ask) (old new : Disk) (stands : StandsFor keeps_old identities hub old first faults_old state) where
  abbrev pub IsAnswered : Result (List (List ℕ)) KeeperRefused → State → Disk → Type 0
  IsAnswered result next disk = AnswersByReading (logs.finds (channel_of ask) (reads disk)) state.channels.loaded (state.channels.at (channel_of ask)) (λ held told. told ≡ held) result next

  pub asked_ends : (result : Result (List (List ℕ)) KeeperRefused) (next : State) (outs : List Out)
      → IsAnswered result next old
      → IsNow keeps state.channels (channel_of ask) next new
      → AskGives identities.keeper number seq ask result outs
      → LeavesAsked logs state.channels (channel_of ask) next old new
      → min (first + failures_after state.failures result) (2 ^ 64 - 1) ≤ faults
      → (failures_after state.failures result ≡ 0 → faults ≡ first)
      → Ends logs keeps identities hub new first faults state moment (asks number seq ask) outs
  asked_ends result next outs reads_it is gives leaves failures unfailing = record {
    next = record { rooms = state.rooms; channels = is.now; disk = new; failures = failures_after state.failures result; stored = state.stored };
    becomes = (
      result,
      next,
      subst (λ (d : Disk). IsAnswered result next d) (sym stands.disk_is) reads_it,
      gives,
      record {
        rooms = refl;
        changes = is.changes;
        failures_are = refl;
        stored_are = refl;
      },
      subst (λ (d : Disk). LeavesAsked logs state.channels (channel_of ask) next d new) (sym stands.disk_is) leaves,
    );
    stands = record { rooms = stands.rooms; channels = is.kept; disk_is = refl; failures = failures; unfailing = unfailing };
  }

  -- and what is left if memory runs out then
  pub asked_breaks : (result : Result (List (List ℕ)) KeeperRefused) (next : State)
      → IsAnswered result next old
      → LeavesAsked logs state.channels (channel_of ask) next old new
      → BreaksBy logs identities state moment new (asks number seq ask)
  asked_breaks result next reads_it leaves = (
    result,
    next,
    subst (λ (d : Disk). IsAnswered result next d) (sym stands.disk_is) reads_it,
    subst (λ (d : Disk). LeavesAsked logs state.channels (channel_of ask) next d new) (sym stands.disk_is) leaves,
  )
