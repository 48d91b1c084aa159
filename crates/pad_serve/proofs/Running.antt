-- What each step keeps holds after each run, and in each state in which one stops.
use Rattle.std.proofs.Common.{◌≡◌, ◌∙◌, refl, sym, ap, arith, ℕ, List, [], ◌∷◌, ◌++◌, Option, Some, None}
use Rattle.std.proofs.lemmas.List.{append-nil}
use Rattle.pad_edge.specs.declared.port_event.PortEvent.{PortEvent}
use Rattle.pad_edge.specs.declared.sent.Sent.{Sent}
use Rattle.serve_loop.specs.Moments.{moments_of}
use Rattle.serve_loop.specs.Run.{Closes, none_waits, one_closes, Takes, unheard, taken, Runs, begins, goes_on, AreCalls, IsServed, IsTurns}
use Rattle.serve_loop.specs.Stop.{ClosesInPart, close_broke, close_cut, close_on, TakesInPart, broke, cut, closing, Stops, between, within, IsStopped}
use Rattle.serve_loop.specs.declared.event.Event.{Event}
use Rattle.serve_loop.specs.declared.event.Event.TheVariants as event
use Rattle.serve_loop.specs.declared.out.Out.{Out}

module _ {S : Type 0} (Step : S → ℕ → Event → List Out → S → Type 0) (Is : S → Type 0)
    (kept : (before : S) (moment : ℕ) (event : Event) (outs : List Out) (now : S) → Step before moment event outs now → Is before → Is now) where
  closes_keep : (moment : ℕ) (state next : S) (waiting : List ℕ) (gone : List Sent) (failed : List ℕ) → Closes Step moment state waiting gone failed next → Is state → Is next
  closes_keep moment state next waiting gone failed none_waits is = is
  closes_keep moment state next (connection ∷ waiting) gone failed (one_closes {mid = mid} {outs = outs} first later failing more step delivered rest) is =
      closes_keep moment mid next (waiting ++ failing) later more rest (kept state moment (event.Closed connection) outs mid step is)

  takes_keep : (moment : ℕ) (state next : S) (heard : Option Event) (gone : List Sent) (failed : List ℕ) → Takes Step moment state heard gone failed next → Is state → Is next
  takes_keep moment state next heard gone failed unheard is = is
  takes_keep moment state next heard gone failed (taken {mid = mid} {event = event} {outs = outs} first later failing more step delivered rest) is =
      closes_keep moment mid next failing later more rest (kept state moment event outs mid step is)

  pub runs_keep : (first next : S) (moments : List ℕ) (events : List PortEvent) (gone : List Sent) (failed : List ℕ) → Runs Step first moments events gone failed next → Is first → Is next
  runs_keep first next moments events gone failed begins is = is
  runs_keep first next moments events gone failed (goes_on before given sent later failing more {state = state} moment event runs takes) is =
      takes_keep moment state next _ later more takes (runs_keep first state before given sent failing runs is)

  module _ (Stands Then : S → Type 0) (Breaks ThenBreaks : S → ℕ → Event → Type 0) (turn : (state : S) → Is state → Stands state → Then state)
      (turn_broken : (state : S) (moment : ℕ) (event : Event) → Is state → Breaks state moment event → ThenBreaks state moment event) where
    closes_then : (moment : ℕ) (state : S) (waiting : List ℕ) (gone : List Sent) (failed : List ℕ) → ClosesInPart Step Stands Breaks moment state waiting gone failed → Is state
        → ClosesInPart Step Then ThenBreaks moment state waiting gone failed
    closes_then moment state [] gone failed stops is = elim stops [ ]
    closes_then moment state (connection ∷ waiting) gone failed (close_broke broken) is = close_broke (turn_broken state moment (event.Closed connection) is broken)
    closes_then moment state (connection ∷ waiting) gone failed (close_cut {mid = mid} outs rest step delivered stands) is =
        close_cut outs rest step delivered (turn mid (kept state moment (event.Closed connection) (outs ++ rest) mid step is) stands)
    closes_then moment state (connection ∷ waiting) gone failed (close_on {mid = mid} {outs = outs} first later failing more step delivered rest) is =
        close_on first later failing more step delivered (closes_then moment mid (waiting ++ failing) later more rest (kept state moment (event.Closed connection) outs mid step is))

    takes_then : (moment : ℕ) (state : S) (event : Event) (gone : List Sent) (failed : List ℕ) → TakesInPart Step Stands Breaks moment state event gone failed → Is state
        → TakesInPart Step Then ThenBreaks moment state event gone failed
    takes_then moment state event gone failed (broke broken) is = broke (turn_broken state moment event is broken)
    takes_then moment state event gone failed (cut {mid = mid} outs rest step delivered stands) is = cut outs rest step delivered (turn mid (kept state moment event (outs ++ rest) mid step is) stands)
    takes_then moment state event gone failed (closing {mid = mid} {outs = outs} first later failing more step delivered rest) is =
        closing first later failing more step delivered (closes_then moment mid failing later more rest (kept state moment event outs mid step is))

    stops_then : (first : S) (all : List ℕ) (events : List PortEvent) (gone : List Sent) (failed : List ℕ) → Stops Step Stands Breaks first all events gone failed → Is first
        → Stops Step Then ThenBreaks first all events gone failed
    stops_then first moments events gone failed (between {state = state} runs stands) is = between runs (turn state (runs_keep first state moments events gone failed runs is) stands)
    stops_then first all events gone failed (within {state = state} moments moment before given event sent later failing more runs heard takes) is =
        within moments moment before given event sent later failing more runs heard (takes_then moment state event later more takes (runs_keep first state moments before sent failing runs is))

    -- so what is said of the last state may be said in other words
    pub stopped_then : (first : S) (turns : ℕ) (port_tells clock_tells : Type 0) (coming : List ℕ) (events_before events_now : List PortEvent) (gone_before gone_now : List Sent) (failed_before failed_now : List ℕ)
        → IsStopped Step Stands Breaks first turns port_tells clock_tells coming events_before events_now gone_before gone_now failed_before failed_now → Is first
        → IsStopped Step Then ThenBreaks first turns port_tells clock_tells coming events_before events_now gone_before gone_now failed_before failed_now
    stopped_then first turns port_tells clock_tells coming events_before events_now gone_before gone_now failed_before failed_now stopped is = record {
      events = stopped.events;
      gone = stopped.gone;
      failed = stopped.failed;
      moments = stopped.moments;
      stops = stops_then first stopped.moments stopped.events stopped.gone stopped.failed stopped.stops is;
      calls = stopped.calls;
      clocked = stopped.clocked;
      events_is = stopped.events_is;
      gone_is = stopped.gone_is;
      failed_is = stopped.failed_is;
    }

    pub served_then : (first : S) (turns made : ℕ) (port_tells clock_tells : Type 0) (coming : List ℕ) (events_before events_now : List PortEvent) (gone_before gone_now : List Sent) (failed_before failed_now : List ℕ)
        → IsServed Step Stands first turns made port_tells clock_tells coming events_before events_now gone_before gone_now failed_before failed_now → Is first
        → IsServed Step Then first turns made port_tells clock_tells coming events_before events_now gone_before gone_now failed_before failed_now
    served_then first turns made port_tells clock_tells coming events_before events_now gone_before gone_now failed_before failed_now served is = record {
      moments = served.moments;
      events = served.events;
      gone = served.gone;
      failed = served.failed;
      next = served.next;
      runs = served.runs;
      turned = served.turned;
      clocked = served.clocked;
      events_is = served.events_is;
      gone_is = served.gone_is;
      failed_is = served.failed_is;
      stands = turn served.next (runs_keep first served.next served.moments served.events served.gone served.failed served.runs is) served.stands;
    }

pub no_calls : (turns : ℕ) → AreCalls turns []
no_calls turns = record { few = omega arith; ended = λ place got. (cc) }

calls_of : (turns made : ℕ) (events : List PortEvent) → IsTurns turns made events → AreCalls turns events
calls_of turns made events turned = record { few = omega (arith, turned.few, turned.counted); ended = λ place got. turned.ended place got ∙ turned.counted }

-- a run that was done stopped behind its last event
pub served_stops : {S : Type 0} (Step : S → ℕ → Event → List Out → S → Type 0) (Stands Then : S → Type 0) (then : (state : S) → Stands state → Then state) (Breaks : S → ℕ → Event → Type 0) (first : S) (turns made : ℕ) (port_tells clock_tells : Type 0) (coming : List ℕ)
    (events_before events_now : List PortEvent) (gone_before gone_now : List Sent) (failed_before failed_now : List ℕ)
    → IsServed Step Stands first turns made port_tells clock_tells coming events_before events_now gone_before gone_now failed_before failed_now
    → IsStopped Step Then Breaks first turns port_tells clock_tells coming events_before events_now gone_before gone_now failed_before failed_now
served_stops Step Stands Then then Breaks first turns made port_tells clock_tells coming events_before events_now gone_before gone_now failed_before failed_now served = record {
  moments = served.moments;
  events = served.events;
  gone = served.gone;
  failed = served.failed;
  stops = between served.runs (then served.next served.stands);
  calls = calls_of turns made served.events served.turned;
  clocked = λ told. served.clocked told ∙ ap (λ (n : ℕ). moments_of n coming) served.turned.counted;
  events_is = served.events_is;
  gone_is = served.gone_is;
  failed_is = served.failed_is;
}

-- a run that stopped before its first event
pub stopped_first : {S : Type 0} (Step : S → ℕ → Event → List Out → S → Type 0) (Stands : S → Type 0) (Breaks : S → ℕ → Event → Type 0) (first : S) (turns : ℕ) (port_tells clock_tells : Type 0) (coming : List ℕ)
    (events_before events_now : List PortEvent) (gone_before gone_now : List Sent) (failed_before failed_now : List ℕ)
    → (port_tells → events_now ≡ events_before) → (port_tells → gone_now ≡ gone_before) → (port_tells → failed_now ≡ failed_before) → Stands first
    → IsStopped Step Stands Breaks first turns port_tells clock_tells coming events_before events_now gone_before gone_now failed_before failed_now
stopped_first Step Stands Breaks first turns port_tells clock_tells coming events_before events_now gone_before gone_now failed_before failed_now events_same gone_same failed_same stands = record {
  moments = [];
  events = [];
  gone = [];
  failed = [];
  stops = between begins stands;
  calls = no_calls turns;
  clocked = λ told. refl;
  events_is = λ told. events_same told ∙ sym (append-nil events_before);
  gone_is = λ told. gone_same told ∙ sym (append-nil gone_before);
  failed_is = λ told. failed_same told ∙ sym (append-nil failed_before);
}

-- what a port told between two moments was told since an earlier one, if it told nothing between these
pub served_from : {S : Type 0} (Step : S → ℕ → Event → List Out → S → Type 0) (Stands : S → Type 0) (first : S) (turns made : ℕ) (port_tells clock_tells : Type 0) (coming : List ℕ)
    (events_before events_mid events_now : List PortEvent) (gone_before gone_mid gone_now : List Sent) (failed_before failed_mid failed_now : List ℕ)
    → (port_tells → events_mid ≡ events_before) → (port_tells → gone_mid ≡ gone_before) → (port_tells → failed_mid ≡ failed_before)
    → IsServed Step Stands first turns made port_tells clock_tells coming events_mid events_now gone_mid gone_now failed_mid failed_now
    → IsServed Step Stands first turns made port_tells clock_tells coming events_before events_now gone_before gone_now failed_before failed_now
served_from Step Stands first turns made port_tells clock_tells coming events_before events_mid events_now gone_before gone_mid gone_now failed_before failed_mid failed_now events_same gone_same failed_same served = record {
  moments = served.moments;
  events = served.events;
  gone = served.gone;
  failed = served.failed;
  next = served.next;
  runs = served.runs;
  turned = served.turned;
  clocked = served.clocked;
  events_is = λ told. served.events_is told ∙ ap (λ (l : List PortEvent). l ++ served.events) (events_same told);
  gone_is = λ told. served.gone_is told ∙ ap (λ (l : List Sent). l ++ served.gone) (gone_same told);
  failed_is = λ told. served.failed_is told ∙ ap (λ (l : List ℕ). l ++ served.failed) (failed_same told);
  stands = served.stands;
}

pub stopped_from : {S : Type 0} (Step : S → ℕ → Event → List Out → S → Type 0) (Stands : S → Type 0) (Breaks : S → ℕ → Event → Type 0) (first : S) (turns : ℕ) (port_tells clock_tells : Type 0) (coming : List ℕ)
    (events_before events_mid events_now : List PortEvent) (gone_before gone_mid gone_now : List Sent) (failed_before failed_mid failed_now : List ℕ)
    → (port_tells → events_mid ≡ events_before) → (port_tells → gone_mid ≡ gone_before) → (port_tells → failed_mid ≡ failed_before)
    → IsStopped Step Stands Breaks first turns port_tells clock_tells coming events_mid events_now gone_mid gone_now failed_mid failed_now
    → IsStopped Step Stands Breaks first turns port_tells clock_tells coming events_before events_now gone_before gone_now failed_before failed_now
stopped_from Step Stands Breaks first turns port_tells clock_tells coming events_before events_mid events_now gone_before gone_mid gone_now failed_before failed_mid failed_now events_same gone_same failed_same stopped = record {
  moments = stopped.moments;
  events = stopped.events;
  gone = stopped.gone;
  failed = stopped.failed;
  stops = stopped.stops;
  calls = stopped.calls;
  clocked = stopped.clocked;
  events_is = λ told. stopped.events_is told ∙ ap (λ (l : List PortEvent). l ++ stopped.events) (events_same told);
  gone_is = λ told. stopped.gone_is told ∙ ap (λ (l : List Sent). l ++ stopped.gone) (gone_same told);
  failed_is = λ told. stopped.failed_is told ∙ ap (λ (l : List ℕ). l ++ stopped.failed) (failed_same told);
}
