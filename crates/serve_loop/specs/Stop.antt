-- Runs that stopped within an event, for want of memory or since the port failed.
use Rattle.std.specs.Prelude.{◌≡◌, ℕ, List, [], ◌∷◌, ◌++◌, length, Some}
use Rattle.pad_edge.specs.declared.port_event.PortEvent.{PortEvent}
use Rattle.pad_edge.specs.declared.sent.Sent.{Sent}
use Rattle.serve_loop.specs.Delivery.{Delivers}
use Rattle.serve_loop.specs.Moments.{moments_of}
use Rattle.serve_loop.specs.Run.{heard, Runs, AreCalls}
use Rattle.serve_loop.specs.declared.event.Event.{Event}
use Rattle.serve_loop.specs.declared.event.Event.TheVariants as event
use Rattle.serve_loop.specs.declared.out.Out.{Out}

-- The connections that wait were closed in part: as in `Closes`, up to a step that wanted memory, or to outputs of which the first ones alone
-- were delivered.
pub data ClosesInPart {S : Type 0} (Step : S → ℕ → Event → List Out → S → Type 0) (Stands : S → Type 0) (Breaks : S → ℕ → Event → Type 0) (moment : ℕ)
    : S → (waiting : List ℕ) → (gone : List Sent) → (failed : List ℕ) → Type 0 where
  close_broke : {state : S} {connection : ℕ} {waiting : List ℕ}
      → Breaks state moment (event.Closed connection)
      → ClosesInPart Step Stands Breaks moment state (connection ∷ waiting) [] []
  close_cut : {state mid : S} {connection : ℕ} {waiting : List ℕ} {gone : List Sent} {failed : List ℕ} (outs rest : List Out)
      → Step state moment (event.Closed connection) (outs ++ rest) mid
      → Delivers waiting outs gone failed
      → Stands mid
      → ClosesInPart Step Stands Breaks moment state (connection ∷ waiting) gone failed
  close_on : {state mid : S} {connection : ℕ} {waiting : List ℕ} {outs : List Out} (gone later : List Sent) (failed more : List ℕ)
      → Step state moment (event.Closed connection) outs mid
      → Delivers waiting outs gone failed
      → ClosesInPart Step Stands Breaks moment mid (waiting ++ failed) later more
      → ClosesInPart Step Stands Breaks moment state (connection ∷ waiting) (gone ++ later) (failed ++ more)

-- An event was taken in part: its step wanted memory, or the first of its outputs alone were delivered, or the closings after it stopped.
pub data TakesInPart {S : Type 0} (Step : S → ℕ → Event → List Out → S → Type 0) (Stands : S → Type 0) (Breaks : S → ℕ → Event → Type 0) (moment : ℕ)
    : S → Event → (gone : List Sent) → (failed : List ℕ) → Type 0 where
  broke : {state : S} {event : Event}
      → Breaks state moment event
      → TakesInPart Step Stands Breaks moment state event [] []
  cut : {state mid : S} {event : Event} {gone : List Sent} {failed : List ℕ} (outs rest : List Out)
      → Step state moment event (outs ++ rest) mid
      → Delivers [] outs gone failed
      → Stands mid
      → TakesInPart Step Stands Breaks moment state event gone failed
  closing : {state mid : S} {event : Event} {outs : List Out} (gone later : List Sent) (failed more : List ℕ)
      → Step state moment event outs mid
      → Delivers [] outs gone failed
      → ClosesInPart Step Stands Breaks moment mid failed later more
      → TakesInPart Step Stands Breaks moment state event (gone ++ later) (failed ++ more)

-- A run stopped: between two events, or within the last of them. Each event that was given has its moment.
pub data Stops {S : Type 0} (Step : S → ℕ → Event → List Out → S → Type 0) (Stands : S → Type 0) (Breaks : S → ℕ → Event → Type 0) (first : S)
    : (moments : List ℕ) → List PortEvent → (gone : List Sent) → (failed : List ℕ) → Type 0 where
  between : {state : S} {moments : List ℕ} {events : List PortEvent} {gone : List Sent} {failed : List ℕ}
      → Runs Step first moments events gone failed state
      → Stands state
      → Stops Step Stands Breaks first moments events gone failed
  within : {state : S} (moments : List ℕ) (moment : ℕ) (events : List PortEvent) (given : PortEvent) (event : Event) (gone later : List Sent) (failed more : List ℕ)
      → Runs Step first moments events gone failed state
      → heard given ≡ Some event
      → TakesInPart Step Stands Breaks moment state event later more
      → Stops Step Stands Breaks first (moments ++ moment ∷ []) (events ++ given ∷ []) (gone ++ later) (failed ++ more)

-- A port was served until the run stopped. Where the port tells, the events of that run were given and what went out is what it sends; where the
-- clock tells, the moments are the clock's.
pub record IsStopped {S : Type 0} (Step : S → ℕ → Event → List Out → S → Type 0) (Stands : S → Type 0) (Breaks : S → ℕ → Event → Type 0) (first : S)
    (turns : ℕ) (port_tells clock_tells : Type 0) (coming : List ℕ)
    (events_before events_now : List PortEvent) (gone_before gone_now : List Sent) (failed_before failed_now : List ℕ) : Type 0 where
  pub moments : List ℕ
  pub events : List PortEvent
  pub gone : List Sent
  pub failed : List ℕ
  pub stops : Stops Step Stands Breaks first moments events gone failed
  pub calls : AreCalls turns events
  pub clocked : clock_tells → moments ≡ moments_of (length events) coming
  pub events_is : port_tells → events_now ≡ events_before ++ events
  pub gone_is : port_tells → gone_now ≡ gone_before ++ gone
  pub failed_is : port_tells → failed_now ≡ failed_before ++ failed
