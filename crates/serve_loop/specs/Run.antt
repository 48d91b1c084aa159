-- Runs of a machine behind a port.
use Rattle.std.specs.Prelude.{◌≡◌, ℕ, suc, ◌≤◌, List, [], ◌∷◌, ◌++◌, length, slice_get, Option, Some, None}
use Rattle.pad_edge.specs.declared.port_event.PortEvent.{PortEvent}
use Rattle.pad_edge.specs.declared.port_event.PortEvent.TheVariants as given
use Rattle.pad_edge.specs.declared.sent.Sent.{Sent}
use Rattle.serve_loop.specs.Delivery.{Delivers}
use Rattle.serve_loop.specs.Moments.{moments_of}
use Rattle.serve_loop.specs.declared.event.Event.{Event}
use Rattle.serve_loop.specs.declared.event.Event.TheVariants as event
use Rattle.serve_loop.specs.declared.out.Out.{Out}

-- what a machine hears of what a port gives
abbrev pub heard : PortEvent → Option Event
heard (given.Opened connection) = Some (event.Opened connection)
heard (given.Text connection text) = Some (event.Text connection text)
heard (given.Closed connection) = Some (event.Closed connection)
heard given.Idle = None
heard given.Ended = None

-- The connections that wait are closed, one after another, each by a step and the delivery of its outputs. Those whose sends fail meanwhile
-- come after those that wait already.
pub data Closes {S : Type 0} (Step : S → ℕ → Event → List Out → S → Type 0) (moment : ℕ) : S → (waiting : List ℕ) → (gone : List Sent) → (failed : List ℕ) → S → Type 0 where
  none_waits : {state : S} → Closes Step moment state [] [] [] state
  one_closes : {state mid next : S} {connection : ℕ} {waiting : List ℕ} {outs : List Out} (gone later : List Sent) (failed more : List ℕ)
      → Step state moment (event.Closed connection) outs mid
      → Delivers waiting outs gone failed
      → Closes Step moment mid (waiting ++ failed) later more next
      → Closes Step moment state (connection ∷ waiting) (gone ++ later) (failed ++ more) next

-- One event of a port: its step, the delivery of the outputs, and then the closing of the connections whose sends failed.
pub data Takes {S : Type 0} (Step : S → ℕ → Event → List Out → S → Type 0) (moment : ℕ) : S → Option Event → (gone : List Sent) → (failed : List ℕ) → S → Type 0 where
  unheard : {state : S} → Takes Step moment state None [] [] state
  taken : {state mid next : S} {event : Event} {outs : List Out} (gone later : List Sent) (failed more : List ℕ)
      → Step state moment event outs mid
      → Delivers [] outs gone failed
      → Closes Step moment mid failed later more next
      → Takes Step moment state (Some event) (gone ++ later) (failed ++ more) next

-- A run over the events that a port gave, each with its moment.
pub data Runs {S : Type 0} (Step : S → ℕ → Event → List Out → S → Type 0) (first : S) : (moments : List ℕ) → List PortEvent → (gone : List Sent) → (failed : List ℕ) → S → Type 0 where
  begins : Runs Step first [] [] [] [] first
  goes_on : (moments : List ℕ) (events : List PortEvent) (gone later : List Sent) (failed more : List ℕ) {state next : S} (moment : ℕ) (given : PortEvent)
      → Runs Step first moments events gone failed state
      → Takes Step moment state (heard given) later more next
      → Runs Step first (moments ++ moment ∷ []) (events ++ given ∷ []) (gone ++ later) (failed ++ more) next

-- The calls of `next` that gave an event: so many at most, an `Ended` at most the last, and all of them where there was none.
pub record IsTurns (turns made : ℕ) (events : List PortEvent) : Type 0 where
  pub few : made ≤ turns
  pub counted : made ≡ length events
  pub ended : (place : ℕ) → slice_get events place ≡ Some given.Ended → suc place ≡ made
  pub whole : ((place : ℕ) → slice_get events place ≡ Some given.Ended → ⊥) → made ≡ turns

-- What holds of these calls wherever a run stopped: there are so many at most, and an `Ended` is at most the last.
pub record AreCalls (turns : ℕ) (events : List PortEvent) : Type 0 where
  pub few : length events ≤ turns
  pub ended : (place : ℕ) → slice_get events place ≡ Some given.Ended → suc place ≡ length events

-- A port was served: there is a run of the machine over so many events, and the machine is in its last state. Where the port tells, these events
-- were given and what went out is what the run sends; where the clock tells, the moments are the clock's.
pub record IsServed {S : Type 0} (Step : S → ℕ → Event → List Out → S → Type 0) (Stands : S → Type 0) (first : S) (turns made : ℕ) (port_tells clock_tells : Type 0) (coming : List ℕ)
    (events_before events_now : List PortEvent) (gone_before gone_now : List Sent) (failed_before failed_now : List ℕ) : Type 0 where
  pub moments : List ℕ
  pub events : List PortEvent
  pub gone : List Sent
  pub failed : List ℕ
  pub next : S
  pub runs : Runs Step first moments events gone failed next
  pub turned : IsTurns turns made events
  pub clocked : clock_tells → moments ≡ moments_of made coming
  pub events_is : port_tells → events_now ≡ events_before ++ events
  pub gone_is : port_tells → gone_now ≡ gone_before ++ gone
  pub failed_is : port_tells → failed_now ≡ failed_before ++ failed
  pub stands : Stands next
