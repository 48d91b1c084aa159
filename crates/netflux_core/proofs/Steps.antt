-- A step of the hub, by what its rooms answer.
use Rattle.std.proofs.Common.{◌≡◌, ◌⊎◌, inl, inr, ℕ, List, [], ◌∷◌, refl, sym, ap, subst, ◌∙◌}
use Rattle.disk_volume.specs.Disk.{Disk}
use Rattle.keeper_channel.specs.declared.refused.KeeperRefused.{KeeperRefused}
use Rattle.keeper_channel.specs.declared.refused.KeeperRefused.TheVariants as refused
use Rattle.netflux_codec.specs.declared.ask.Ask.{Ask}
use Rattle.netflux_codec.specs.declared.word.Word.TheVariants as word
use Rattle.netflux_rooms.specs.Machine.{Answer, made, stores, asks, posted, Gives, Steps}
use Rattle.netflux_rooms.specs.Rooms.{Identities, Rooms, tell}
use Rattle.netflux_rooms.specs.Tables.{IsRooms}
use Rattle.netflux_rooms.specs.declared.heard.Heard.{Heard}
use Rattle.netflux_rooms.specs.declared.heard.Heard.TheVariants as heard
use Rattle.netflux_rooms.specs.declared.room_hub.RoomHub.{RoomHub}
use Rattle.netflux_rooms.proofs.CallerLemmas.{steps_then, hangs_nobody, posted_texts}
use Rattle.serve_loop.specs.Connected.{ClosesAlone}
use Rattle.serve_loop.specs.Hangs.{HangsBehind}
use Rattle.serve_loop.specs.declared.event.Event.{Event}
use Rattle.serve_loop.specs.declared.event.Event.TheVariants as event
use Rattle.serve_loop.specs.declared.out.Out.{Out}
use Rattle.netflux_core.specs.Channels.{Channels}
use Rattle.netflux_core.specs.Crashes.{ChannelLogs, HoldsAll}
use Rattle.netflux_core.specs.Inside.Ends.{Ends}
use Rattle.netflux_core.specs.Machine.{ServeState, Becomes, Step, StandsFor, BreaksBy, Breaks, Costs, IsRefused, rooms_after}
use Rattle.netflux_core.specs.Words.{Refuses}
use Rattle.netflux_core.proofs.Telling.{entries_hang}

-- outputs at once
abbrev pub IsDone : Heard → List Out → Type 0
IsDone (heard.Done done) outs = done.items ≡ outs
IsDone (heard.Store n seq channel content) outs = ⊥
IsDone (heard.Ask n seq ask) outs = ⊥

-- Of a refusal the output is an error, and `ESTORE` only if the volume failed.
pub refusal : (rises : Type 0) (number seq : ℕ) (about : List ℕ) (why : KeeperRefused) (outs : List Out) → (why ≡ refused.Store → rises)
    → Refuses number seq about why outs → IsRefused rises number seq about outs
refusal rises number seq about refused.Full outs rose is = (word.Efull, is, λ e. (cc))
refusal rises number seq about refused.Store outs rose is = (word.Estore, is, λ e. rose refl)
refusal rises number seq about (refused.Damaged damage) outs rose is = (word.Edamaged, is, λ e. (cc))
refusal rises number seq about (refused.NoMemory memory) outs rose is = absurd is

module _ (logs : ChannelLogs) (identities : Identities) (first : ℕ) (state : ServeState) (moment : ℕ) where
  -- an answer that needs no keeper
  pub made_ends : (keeps : Channels → Disk → Type 0) (old hub : RoomHub) (disk : Disk) (faults : ℕ) (answer : Answer) (what : Heard) (outs : List Out)
      → StandsFor keeps identities old disk first faults state → IsDone what outs → Gives identities state.rooms what hub answer
      → Ends logs keeps identities hub disk first faults state moment answer outs
  made_ends keeps old hub disk faults (made rooms) (heard.Done done) outs stands is given = record {
    next = record state { rooms = rooms.1 };
    becomes = (sym is ∙ given.0, refl);
    stands = record { rooms = given.1; channels = stands.channels; disk_is = stands.disk_is; failures = stands.failures; unfailing = stands.unfailing };
  }
  made_ends keeps old hub disk faults (stores n seq channel content) (heard.Done done) outs stands is given = absurd given
  made_ends keeps old hub disk faults (asks n seq ask) (heard.Done done) outs stands is given = absurd given
  made_ends keeps old hub disk faults answer (heard.Store n seq channel content) outs stands is given = absurd is
  made_ends keeps old hub disk faults answer (heard.Ask n seq ask) outs stands is given = absurd is

  -- an answer to an event, and how it ends, make a step
  pub step_of : (event : Event) (answer : Answer) (outs : List Out) (next : ServeState) → Steps identities state.rooms event (λ other. other ≡ answer)
      → Becomes logs identities state moment outs next answer → Step logs identities state moment event outs next
  step_of event answer outs next steps becomes = steps_then identities state.rooms event (λ other. other ≡ answer) (Becomes logs identities state moment outs next)
      (λ other e. subst (λ a. Becomes logs identities state moment outs next a) (sym e) becomes) steps

  -- and what is left if memory runs out
  pub breaks_of : (event : Event) (answer : Answer) (disk : Disk) → Steps identities state.rooms event (λ other. other ≡ answer)
      → BreaksBy logs identities state moment disk answer → Breaks logs identities state moment event disk
  breaks_of event answer disk steps breaks = inr (steps_then identities state.rooms event (λ other. other ≡ answer) (BreaksBy logs identities state moment disk)
      (λ other e. subst (λ a. BreaksBy logs identities state moment disk a) (sym e) breaks) steps)

  -- by what came of the keeper's call, if there was one
  pub broken_by : (old new : Disk) (event : Event) (answer other : Answer) → state.disk ≡ old → HoldsAll logs state.channels old → answer ≡ other
      → Steps identities state.rooms event (λ some. some ≡ answer) → (new ≡ old) ⊎ BreaksBy logs identities state moment new other → Breaks logs identities state moment event new
  broken_by old new event answer other is holds e steps (inl same) = inl (same ∙ sym is, subst (λ (d : Disk). HoldsAll logs state.channels d) (sym same) holds)
  broken_by old new event answer other is holds e steps (inr breaks) = breaks_of event answer new steps (subst (λ a. BreaksBy logs identities state moment new a) (sym e) breaks)

-- what an answer that needs no keeper comes to
pub made_costs : (is_loaded : List ℕ → Type 0) (rises : Type 0) (identities : Identities) (rooms : Rooms) (clock : ℕ) (hub : RoomHub) (answer : Answer) (what : Heard) (outs : List Out)
    → IsDone what outs → Gives identities rooms what hub answer → Costs is_loaded rises identities rooms clock clock outs answer
made_costs is_loaded rises identities rooms clock hub (made what) (heard.Done done) outs is given = (sym is ∙ given.0, refl)
made_costs is_loaded rises identities rooms clock hub (stores n seq channel content) (heard.Done done) outs is given = absurd given
made_costs is_loaded rises identities rooms clock hub (asks n seq ask) (heard.Done done) outs is given = absurd given
made_costs is_loaded rises identities rooms clock hub answer (heard.Store n seq channel content) outs is given = absurd is
made_costs is_loaded rises identities rooms clock hub answer (heard.Ask n seq ask) outs is given = absurd is

-- what a message to a channel gives hangs nobody up
pub stored_hangs : (rises : Type 0) (identities : Identities) (rooms : Rooms) (number seq : ℕ) (channel content : List ℕ) (outs : List Out)
    → (outs ≡ posted identities rooms number seq channel content) ⊎ IsRefused rises number seq channel outs → HangsBehind outs
stored_hangs rises identities rooms number seq channel content outs (inl e) =
    subst (λ (o : List Out). HangsBehind o) (sym e) (hangs_nobody (posted identities rooms number seq channel content) (posted_texts identities rooms number seq channel content))
stored_hangs rises identities rooms number seq channel content outs (inr refusing) = subst (λ (o : List Out). HangsBehind o) (sym refusing.1) tt

-- nor what a question gives
pub asked_hangs : (is_loaded : List ℕ → Type 0) (rises : Type 0) (identities : Identities) (rooms : Rooms) (before now : ℕ) (number seq : ℕ) (ask : Ask) (outs : List Out)
    → Costs is_loaded rises identities rooms before now outs (asks number seq ask) → HangsBehind outs
asked_hangs is_loaded rises identities rooms before now number seq ask outs (inl told) =
    subst (λ (o : List Out). HangsBehind o) (sym told.2) (entries_hang (number ∷ []) identities.keeper number ask told.0 (tell number told.1 ∷ []) (λ last. tt))
asked_hangs is_loaded rises identities rooms before now number seq ask outs (inr refusing) = subst (λ (o : List Out). HangsBehind o) (sym refusing.1) tt

-- the rooms after what was heard
pub gives_rooms : (identities : Identities) (rooms : Rooms) (what : Heard) (hub : RoomHub) (answer : Answer) → Gives identities rooms what hub answer → IsRooms identities hub (rooms_after rooms answer)
gives_rooms identities rooms (heard.Done done) hub (made what) given = given.1
gives_rooms identities rooms (heard.Done done) hub (stores n seq channel content) given = absurd given
gives_rooms identities rooms (heard.Done done) hub (asks n seq ask) given = absurd given
gives_rooms identities rooms (heard.Store n seq channel content) hub (made what) given = absurd given
gives_rooms identities rooms (heard.Store n seq channel content) hub (stores m s name text) given = given.4
gives_rooms identities rooms (heard.Store n seq channel content) hub (asks m s ask) given = absurd given
gives_rooms identities rooms (heard.Ask n seq ask) hub (made what) given = absurd given
gives_rooms identities rooms (heard.Ask n seq ask) hub (stores m s name text) given = absurd given
gives_rooms identities rooms (heard.Ask n seq ask) hub (asks m s other) given = given.3

pub rooms_of : (identities : Identities) (rooms : Rooms) (event : Event) (what : Heard) (hub : RoomHub) → Steps identities rooms event (Gives identities rooms what hub)
    → Steps identities rooms event (λ answer. IsRooms identities hub (rooms_after rooms answer))
rooms_of identities rooms event what hub steps = steps_then identities rooms event (Gives identities rooms what hub) (λ answer. IsRooms identities hub (rooms_after rooms answer))
    (λ answer given. gives_rooms identities rooms what hub answer given) steps

-- an event for which the keeper is asked is no closing
pub store_closes : (identities : Identities) (rooms : Rooms) (n seq : ℕ) (channel content : List ℕ) (hub : RoomHub) (event : Event) (before now : List ℕ) (outs : List Out)
    → Steps identities rooms event (Gives identities rooms (heard.Store n seq channel content) hub) → ClosesAlone event before now outs
store_closes identities rooms n seq channel content hub (event.Opened number) before now outs steps = tt
store_closes identities rooms n seq channel content hub (event.Closed number) before now outs steps = absurd steps
store_closes identities rooms n seq channel content hub (event.Text number text) before now outs steps = tt

pub ask_closes : (identities : Identities) (rooms : Rooms) (n seq : ℕ) (ask : Ask) (hub : RoomHub) (event : Event) (before now : List ℕ) (outs : List Out)
    → Steps identities rooms event (Gives identities rooms (heard.Ask n seq ask) hub) → ClosesAlone event before now outs
ask_closes identities rooms n seq ask hub (event.Opened number) before now outs steps = tt
ask_closes identities rooms n seq ask hub (event.Closed number) before now outs steps = absurd steps
ask_closes identities rooms n seq ask hub (event.Text number text) before now outs steps = tt

-- what it comes to over every volume
pub costs_of : (is_loaded : List ℕ → Type 0) (rises : Type 0) (identities : Identities) (rooms : Rooms) (before now : ℕ) (event : Event) (answer : Answer) (outs : List Out)
    → Steps identities rooms event (λ other. other ≡ answer) → Costs is_loaded rises identities rooms before now outs answer
    → Steps identities rooms event (Costs is_loaded rises identities rooms before now outs)
costs_of is_loaded rises identities rooms before now event answer outs steps costs = steps_then identities rooms event (λ other. other ≡ answer) (Costs is_loaded rises identities rooms before now outs)
    (λ other e. subst (λ a. Costs is_loaded rises identities rooms before now outs a) (sym e) costs) steps

-- The answer of the rooms to what was heard, where the keeper comes in: it is what was heard.
pub store_answer : (identities : Identities) (rooms : Rooms) (n seq : ℕ) (channel content : List ℕ) (hub : RoomHub) (answer : Answer)
    → Gives identities rooms (heard.Store n seq channel content) hub answer → (answer ≡ stores n seq channel content) × IsRooms identities hub rooms
store_answer identities rooms n seq channel content hub (made what) given = absurd given
store_answer identities rooms n seq channel content hub (stores m s name text) given =
    (sym (ap (λ (x : ℕ). stores x seq channel content) given.0 ∙ ap (λ (x : ℕ). stores m x channel content) given.1 ∙ ap (λ (x : List ℕ). stores m s x content) given.2 ∙ ap (λ (x : List ℕ). stores m s name x) given.3), given.4)
store_answer identities rooms n seq channel content hub (asks m s ask) given = absurd given

pub ask_answer : (identities : Identities) (rooms : Rooms) (n seq : ℕ) (ask : Ask) (hub : RoomHub) (answer : Answer)
    → Gives identities rooms (heard.Ask n seq ask) hub answer → (answer ≡ asks n seq ask) × IsRooms identities hub rooms
ask_answer identities rooms n seq ask hub (made what) given = absurd given
ask_answer identities rooms n seq ask hub (stores m s name text) given = absurd given
ask_answer identities rooms n seq ask hub (asks m s other) given =
    (sym (ap (λ (x : ℕ). asks x seq ask) given.0 ∙ ap (λ (x : ℕ). asks m x ask) given.1 ∙ ap (λ (x : Ask). asks m s x) given.2), given.3)
