-- What the private functions did: which texts went out and whose sends failed, as far as the port tells.
use Rattle.std.specs.Prelude.{◌≡◌, ℕ, List, ◌++◌, Some}
use Rattle.pad_edge.specs.declared.port_event.PortEvent.{PortEvent}
use Rattle.pad_edge.specs.declared.sent.Sent.{Sent}
use Rattle.serve_loop.specs.Delivery.{Delivers}
use Rattle.serve_loop.specs.Run.{heard, Closes, Takes}
use Rattle.serve_loop.specs.Stop.{ClosesInPart, TakesInPart}
use Rattle.serve_loop.specs.declared.event.Event.{Event}
use Rattle.serve_loop.specs.declared.out.Out.{Out}

-- these outputs were delivered: what went out and whose sends failed grew by that, and so did those that wait
pub record IsDelivered (tells : Type 0) (before now : List ℕ) (outs : List Out) (gone_before gone_now : List Sent) (failed_before failed_now : List ℕ) : Type 0 where
  pub gone : List Sent
  pub failed : List ℕ
  pub delivers : Delivers before outs gone failed
  pub gone_is : tells → gone_now ≡ gone_before ++ gone
  pub failed_is : tells → failed_now ≡ failed_before ++ failed
  pub waiting_is : now ≡ before ++ failed

-- the first of these outputs were delivered
pub record IsCut (tells : Type 0) (before : List ℕ) (outs : List Out) (gone_before gone_now : List Sent) (failed_before failed_now : List ℕ) : Type 0 where
  pub front : List Out
  pub rest : List Out
  pub gone : List Sent
  pub failed : List ℕ
  pub outs_is : outs ≡ front ++ rest
  pub delivers : Delivers before front gone failed
  pub gone_is : tells → gone_now ≡ gone_before ++ gone
  pub failed_is : tells → failed_now ≡ failed_before ++ failed

-- those that waited were closed, and the machine is in this state
pub record IsClosed {S : Type 0} (tells : Type 0) (Step : S → ℕ → Event → List Out → S → Type 0) (Stands : S → Type 0) (moment : ℕ) (state : S) (waiting : List ℕ)
    (gone_before gone_now : List Sent) (failed_before failed_now : List ℕ) : Type 0 where
  pub gone : List Sent
  pub failed : List ℕ
  pub next : S
  pub closes : Closes Step moment state waiting gone failed next
  pub gone_is : tells → gone_now ≡ gone_before ++ gone
  pub failed_is : tells → failed_now ≡ failed_before ++ failed
  pub stands : Stands next

-- those that waited were closed in part
pub record IsClosedInPart {S : Type 0} (tells : Type 0) (Step : S → ℕ → Event → List Out → S → Type 0) (Stands : S → Type 0) (Breaks : S → ℕ → Event → Type 0) (moment : ℕ) (state : S) (waiting : List ℕ)
    (gone_before gone_now : List Sent) (failed_before failed_now : List ℕ) : Type 0 where
  pub gone : List Sent
  pub failed : List ℕ
  pub closes : ClosesInPart Step Stands Breaks moment state waiting gone failed
  pub gone_is : tells → gone_now ≡ gone_before ++ gone
  pub failed_is : tells → failed_now ≡ failed_before ++ failed

-- one event was taken
pub record IsTaken {S : Type 0} (tells : Type 0) (Step : S → ℕ → Event → List Out → S → Type 0) (Stands : S → Type 0) (moment : ℕ) (state : S) (given : PortEvent)
    (gone_before gone_now : List Sent) (failed_before failed_now : List ℕ) : Type 0 where
  pub gone : List Sent
  pub failed : List ℕ
  pub next : S
  pub takes : Takes Step moment state (heard given) gone failed next
  pub gone_is : tells → gone_now ≡ gone_before ++ gone
  pub failed_is : tells → failed_now ≡ failed_before ++ failed
  pub stands : Stands next

-- one event was taken in part
pub record IsTakenInPart {S : Type 0} (tells : Type 0) (Step : S → ℕ → Event → List Out → S → Type 0) (Stands : S → Type 0) (Breaks : S → ℕ → Event → Type 0) (moment : ℕ) (state : S) (given : PortEvent)
    (gone_before gone_now : List Sent) (failed_before failed_now : List ℕ) : Type 0 where
  pub gone : List Sent
  pub failed : List ℕ
  pub event : Event
  pub event_is : heard given ≡ Some event
  pub takes : TakesInPart Step Stands Breaks moment state event gone failed
  pub gone_is : tells → gone_now ≡ gone_before ++ gone
  pub failed_is : tells → failed_now ≡ failed_before ++ failed
