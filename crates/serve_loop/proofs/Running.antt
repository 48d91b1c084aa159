-- A run over the events of a port, so far and to its end.
use Rattle.std.proofs.Common.{◌≡◌, ◌∙◌, ℕ, ◌+◌, ◌≤◌, ◌<◌, List, [], ◌∷◌, ◌++◌, length, zero, suc, add-one, refl, sym, ap, arith}
use Rattle.std.specs.Prelude.{slice_get, Some}
use Rattle.std.proofs.lemmas.List.{append-nil, append_assoc, length-append}
use Rattle.pad_edge.specs.Clock.{next_moment, moments_after}
use Rattle.pad_edge.specs.declared.port_event.PortEvent.{PortEvent}
use Rattle.pad_edge.specs.declared.port_event.PortEvent.TheVariants as given
use Rattle.pad_edge.specs.declared.sent.Sent.{Sent}
use Rattle.serve_loop.specs.Inside.Taken.{IsTaken, IsTakenInPart}
use Rattle.serve_loop.specs.Moments.{coming_after, moments_of}
use Rattle.serve_loop.specs.Run.{Runs, begins, goes_on, AreCalls, IsServed, IsTurns}
use Rattle.serve_loop.specs.Stop.{between, within, IsStopped}
use Rattle.serve_loop.specs.declared.event.Event.{Event}
use Rattle.serve_loop.specs.declared.out.Out.{Out}

pub moments_more : (calls : ℕ) (coming : List ℕ) → moments_of (calls + 1) coming ≡ moments_of calls coming ++ next_moment (coming_after calls coming) ∷ []
moments_more calls coming = rw add-one (steps calls coming)
  where
    steps : (calls : ℕ) (coming : List ℕ) → moments_of (suc calls) coming ≡ moments_of calls coming ++ next_moment (coming_after calls coming) ∷ []
    steps zero coming = refl
    steps (suc calls) coming = ap (λ (l : List ℕ). next_moment coming ∷ l) (steps calls (moments_after coming))

pub coming_more : (calls : ℕ) (coming : List ℕ) → coming_after (calls + 1) coming ≡ moments_after (coming_after calls coming)
coming_more calls coming = rw add-one (steps calls coming)
  where
    steps : (calls : ℕ) (coming : List ℕ) → coming_after (suc calls) coming ≡ moments_after (coming_after calls coming)
    steps zero coming = refl
    steps (suc calls) coming = steps calls (moments_after coming)

-- none of these events is an `Ended`
abbrev pub IsUnended : List PortEvent → Type 0
IsUnended events = (place : ℕ) → slice_get events place ≡ Some given.Ended → ⊥

-- So many events were taken, and this holds of them.
pub record IsRunning {S : Type 0} (Step : S → ℕ → Event → List Out → S → Type 0) (Stands : S → Type 0) (first : S) (Are : List PortEvent → Type 0) (made : ℕ) (port_tells clock_tells : Type 0) (coming : List ℕ)
    (events_before events_now : List PortEvent) (gone_before gone_now : List Sent) (failed_before failed_now : List ℕ) : Type 0 where
  pub moments : List ℕ
  pub events : List PortEvent
  pub gone : List Sent
  pub failed : List ℕ
  pub next : S
  pub runs : Runs Step first moments events gone failed next
  pub made_is : length events ≡ made
  pub are : Are events
  pub clocked : clock_tells → moments ≡ moments_of made coming
  pub events_is : port_tells → events_now ≡ events_before ++ events
  pub gone_is : port_tells → gone_now ≡ gone_before ++ gone
  pub failed_is : port_tells → failed_now ≡ failed_before ++ failed
  pub stands : Stands next

pub running_none : {S : Type 0} (Step : S → ℕ → Event → List Out → S → Type 0) (Stands : S → Type 0) (first : S) (port_tells clock_tells : Type 0) (coming : List ℕ) (events : List PortEvent) (sent : List Sent) (failed : List ℕ)
    → Stands first → IsRunning Step Stands first IsUnended 0 port_tells clock_tells coming events events sent sent failed failed
running_none Step Stands first port_tells clock_tells coming events sent failed stands = record {
  moments = [];
  events = [];
  gone = [];
  failed = [];
  next = first;
  runs = begins;
  made_is = refl;
  are = λ place got. (cc);
  clocked = λ told. refl;
  events_is = λ told. sym (append-nil events);
  gone_is = λ told. sym (append-nil sent);
  failed_is = λ told. sym (append-nil failed);
  stands = stands;
}

pub running_one : {S : Type 0} (Step : S → ℕ → Event → List Out → S → Type 0) (Old New : S → Type 0) (first : S) (Are More : List PortEvent → Type 0) (made moment : ℕ) (port_tells clock_tells : Type 0) (coming : List ℕ) (given : PortEvent)
    (events_before events_mid events_after : List PortEvent) (sent_before sent_mid sent_next sent_after : List Sent) (failed_before failed_mid failed_next failed_after : List ℕ)
    → (so_far : IsRunning Step Old first Are made port_tells clock_tells coming events_before events_mid sent_before sent_mid failed_before failed_mid)
    → (port_tells → events_after ≡ events_mid ++ given ∷ []) → (port_tells → sent_next ≡ sent_mid) → (port_tells → failed_next ≡ failed_mid)
    → IsTaken port_tells Step New moment so_far.next given sent_next sent_after failed_next failed_after
    → (clock_tells → moment ≡ next_moment (coming_after made coming))
    → More (so_far.events ++ given ∷ [])
    → IsRunning Step New first More (made + 1) port_tells clock_tells coming events_before events_after sent_before sent_after failed_before failed_after
running_one Step Old New first Are More made moment port_tells clock_tells coming given events_before events_mid events_after sent_before sent_mid sent_next sent_after failed_before failed_mid failed_next failed_after so_far events_is sent_same failed_same one at more = record {
  moments = so_far.moments ++ moment ∷ [];
  events = so_far.events ++ given ∷ [];
  gone = so_far.gone ++ one.gone;
  failed = so_far.failed ++ one.failed;
  next = one.next;
  runs = goes_on so_far.moments so_far.events so_far.gone one.gone so_far.failed one.failed moment given so_far.runs one.takes;
  made_is = omega (arith, so_far.made_is, length-append so_far.events (given ∷ []));
  are = more;
  clocked = λ told. ap (λ (l : List ℕ). l ++ moment ∷ []) (so_far.clocked told) ∙ ap (λ (m : ℕ). moments_of made coming ++ m ∷ []) (at told) ∙ sym (moments_more made coming);
  events_is = λ told. events_is told ∙ ap (λ (l : List PortEvent). l ++ given ∷ []) (so_far.events_is told) ∙ append_assoc events_before so_far.events (given ∷ []);
  gone_is = λ told. one.gone_is told ∙ ap (λ (l : List Sent). l ++ one.gone) (sent_same told ∙ so_far.gone_is told) ∙ append_assoc sent_before so_far.gone one.gone;
  failed_is = λ told. one.failed_is told ∙ ap (λ (l : List ℕ). l ++ one.failed) (failed_same told ∙ so_far.failed_is told) ∙ append_assoc failed_before so_far.failed one.failed;
  stands = one.stands;
}

pub served_of : {S : Type 0} (Step : S → ℕ → Event → List Out → S → Type 0) (Stands : S → Type 0) (first : S) (Are : List PortEvent → Type 0) (turns made : ℕ) (port_tells clock_tells : Type 0) (coming : List ℕ)
    (events_before events_now : List PortEvent) (sent_before sent_now : List Sent) (failed_before failed_now : List ℕ)
    → (so_far : IsRunning Step Stands first Are made port_tells clock_tells coming events_before events_now sent_before sent_now failed_before failed_now)
    → IsTurns turns made so_far.events
    → IsServed Step Stands first turns made port_tells clock_tells coming events_before events_now sent_before sent_now failed_before failed_now
served_of Step Stands first Are turns made port_tells clock_tells coming events_before events_now sent_before sent_now failed_before failed_now so_far turned = record {
  moments = so_far.moments;
  events = so_far.events;
  gone = so_far.gone;
  failed = so_far.failed;
  next = so_far.next;
  runs = so_far.runs;
  turned = turned;
  clocked = so_far.clocked;
  events_is = so_far.events_is;
  gone_is = so_far.gone_is;
  failed_is = so_far.failed_is;
  stands = so_far.stands;
}

-- a run stopped between two events
pub stopped_between : {S : Type 0} (Step : S → ℕ → Event → List Out → S → Type 0) (Stands : S → Type 0) (Breaks : S → ℕ → Event → Type 0) (first : S) (Are : List PortEvent → Type 0) (turns made : ℕ) (port_tells clock_tells : Type 0) (coming : List ℕ)
    (events_before events_now events_after : List PortEvent) (sent_before sent_now sent_after : List Sent) (failed_before failed_now failed_after : List ℕ)
    → (so_far : IsRunning Step Stands first Are made port_tells clock_tells coming events_before events_now sent_before sent_now failed_before failed_now)
    → (port_tells → events_after ≡ events_now) → (port_tells → sent_after ≡ sent_now) → (port_tells → failed_after ≡ failed_now)
    → AreCalls turns so_far.events
    → IsStopped Step Stands Breaks first turns port_tells clock_tells coming events_before events_after sent_before sent_after failed_before failed_after
stopped_between Step Stands Breaks first Are turns made port_tells clock_tells coming events_before events_now events_after sent_before sent_now sent_after failed_before failed_now failed_after so_far events_same sent_same failed_same calls = record {
  moments = so_far.moments;
  events = so_far.events;
  gone = so_far.gone;
  failed = so_far.failed;
  stops = between so_far.runs so_far.stands;
  calls = calls;
  clocked = λ told. so_far.clocked told ∙ ap (λ (n : ℕ). moments_of n coming) (sym so_far.made_is);
  events_is = λ told. events_same told ∙ so_far.events_is told;
  gone_is = λ told. sent_same told ∙ so_far.gone_is told;
  failed_is = λ told. failed_same told ∙ so_far.failed_is told;
}

-- a run stopped within an event
pub stopped_within : {S : Type 0} (Step : S → ℕ → Event → List Out → S → Type 0) (Old New : S → Type 0) (Breaks : S → ℕ → Event → Type 0) (first : S) (Are : List PortEvent → Type 0) (turns made moment : ℕ) (port_tells clock_tells : Type 0) (coming : List ℕ) (given : PortEvent)
    (events_before events_mid events_after : List PortEvent) (sent_before sent_mid sent_next sent_after : List Sent) (failed_before failed_mid failed_next failed_after : List ℕ)
    → (so_far : IsRunning Step Old first Are made port_tells clock_tells coming events_before events_mid sent_before sent_mid failed_before failed_mid)
    → (port_tells → events_after ≡ events_mid ++ given ∷ []) → (port_tells → sent_next ≡ sent_mid) → (port_tells → failed_next ≡ failed_mid)
    → IsTakenInPart port_tells Step New Breaks moment so_far.next given sent_next sent_after failed_next failed_after
    → (clock_tells → moment ≡ next_moment (coming_after made coming))
    → AreCalls turns (so_far.events ++ given ∷ [])
    → IsStopped Step New Breaks first turns port_tells clock_tells coming events_before events_after sent_before sent_after failed_before failed_after
stopped_within Step Old New Breaks first Are turns made moment port_tells clock_tells coming given events_before events_mid events_after sent_before sent_mid sent_next sent_after failed_before failed_mid failed_next failed_after so_far events_is sent_same failed_same one at calls =
    let many : length (so_far.events ++ given ∷ []) ≡ made + 1 = omega (arith, so_far.made_is, length-append so_far.events (given ∷ [])) in
    record {
      moments = so_far.moments ++ moment ∷ [];
      events = so_far.events ++ given ∷ [];
      gone = so_far.gone ++ one.gone;
      failed = so_far.failed ++ one.failed;
      stops = within so_far.moments moment so_far.events given one.event so_far.gone one.gone so_far.failed one.failed so_far.runs one.event_is one.takes;
      calls = calls;
      clocked = λ told. ap (λ (l : List ℕ). l ++ moment ∷ []) (so_far.clocked told) ∙ ap (λ (m : ℕ). moments_of made coming ++ m ∷ []) (at told) ∙ sym (moments_more made coming) ∙ ap (λ (n : ℕ). moments_of n coming) (sym many);
      events_is = λ told. events_is told ∙ ap (λ (l : List PortEvent). l ++ given ∷ []) (so_far.events_is told) ∙ append_assoc events_before so_far.events (given ∷ []);
      gone_is = λ told. one.gone_is told ∙ ap (λ (l : List Sent). l ++ one.gone) (sent_same told ∙ so_far.gone_is told) ∙ append_assoc sent_before so_far.gone one.gone;
      failed_is = λ told. one.failed_is told ∙ ap (λ (l : List ℕ). l ++ one.failed) (failed_same told ∙ so_far.failed_is told) ∙ append_assoc failed_before so_far.failed one.failed;
    }
