-- What contracts see of a port in memory.
use Rattle.std.specs.Prelude.{ℕ, List, [], ◌∷◌, Result, Ok, Err}
use Rattle.pad_edge.specs.Calls.{CallCounts}
use Rattle.pad_edge.specs.declared.link_refused.LinkRefused.{LinkRefused}
use Rattle.pad_edge.specs.declared.port_event.PortEvent.{PortEvent}
use Rattle.pad_edge.specs.declared.port_event.PortEvent.TheVariants.{Ended}
use Rattle.pad_edge.specs.declared.sent.Sent.{Sent}

-- The events that it gave so far, those of its list that are still to come, how often it answered `Ended`, what was sent and hung
-- up, the connections whose sends failed, for how many hang-ups it has room, and the calls: which of them fail, how many were made,
-- how many calls of `listen` and `next` failed (`faults`), and how many sends (`drops`).
pub record PortSoFar : Type 0 where
  pub events : List PortEvent
  pub coming : List PortEvent
  pub sent : List Sent
  pub failed : List ℕ
  pub spare : ℕ
  pub ends : ℕ
  pub drops : ℕ
  pub calls : CallCounts

-- the event that it gives next: the first that is still to come, and `Ended` if none is
abbrev pub next_event : List PortEvent → PortEvent
next_event [] = Ended
next_event (event ∷ events) = event

-- the events still to come after a call that may have given one
abbrev pub events_left : List PortEvent → Result PortEvent LinkRefused → List PortEvent
events_left [] result = []
events_left (event ∷ events) (Ok given) = events
events_left (event ∷ events) (Err refused) = event ∷ events
