-- What a port gives, and what comes of its calls.
use Rattle.std.specs.Prelude.{ℕ, Bool, true, false, ◌≡◌, ◌==◌, List, [], ◌∷◌, ◌++◌, Result, Ok, Err}
use Rattle.std.specs.List.{list_any}
use Rattle.pad_edge.specs.declared.link_refused.LinkRefused.{LinkRefused}
use Rattle.pad_edge.specs.declared.link_refused.LinkRefused.TheVariants as refused
use Rattle.pad_edge.specs.declared.port_event.PortEvent.{PortEvent}
use Rattle.pad_edge.specs.declared.port_event.PortEvent.TheVariants as event

-- the port ended
abbrev pub is_port_end : Result PortEvent LinkRefused → Bool
is_port_end (Ok (event.Opened connection)) = false
is_port_end (Ok (event.Text connection text)) = false
is_port_end (Ok (event.Closed connection)) = false
is_port_end (Ok event.Idle) = false
is_port_end (Ok event.Ended) = true
is_port_end (Err refused) = false

-- the events given so far, after a call that may have given one
abbrev pub events_after : List PortEvent → Result PortEvent LinkRefused → List PortEvent
events_after events (Ok event) = events ++ event ∷ []
events_after events (Err refused) = events

-- the connections whose sends failed so far, after a send to this one
abbrev pub failed_after : {T : Type 0} → List ℕ → (connection : ℕ) → Result T LinkRefused → List ℕ
failed_after failed connection (Ok value) = failed
failed_after failed connection (Err refused.Failed) = failed ++ connection ∷ []
failed_after failed connection (Err refused.NoMemory) = failed

-- the numbers that events opened, in order
abbrev pub opened : List PortEvent → List ℕ
opened [] = []
opened (event.Opened connection ∷ events) = connection ∷ opened events
opened (event.Text connection text ∷ events) = opened events
opened (event.Closed connection ∷ events) = opened events
opened (event.Idle ∷ events) = opened events
opened (event.Ended ∷ events) = opened events

-- no number is opened twice
abbrev pub OpensOnce : List PortEvent → Type 0
OpensOnce [] = Unit {0}
OpensOnce (event.Opened connection ∷ events) = (list_any (λ one. one == connection) (opened events) ≡ false) × OpensOnce events
OpensOnce (event.Text connection text ∷ events) = OpensOnce events
OpensOnce (event.Closed connection ∷ events) = OpensOnce events
OpensOnce (event.Idle ∷ events) = OpensOnce events
OpensOnce (event.Ended ∷ events) = OpensOnce events
