-- What a stopped run sends, a whole run sends first. For the crates above.
use Rattle.std.proofs.Common.{◌≡◌, ◌∙◌, ◌⊎◌, inl, inr, ℕ, List, [], ◌∷◌, ◌++◌, refl, sym, ap, subst}
use Rattle.std.specs.Prelude.{Option, Some}
use Rattle.std.proofs.lemmas.List.{append-nil, append_assoc}
use Rattle.pad_edge.specs.declared.port_event.PortEvent.{PortEvent}
use Rattle.pad_edge.specs.declared.sent.Sent.{Sent}
use Rattle.serve_loop.specs.Run.{Closes, one_closes, Takes, taken, Runs, goes_on}
use Rattle.serve_loop.specs.Stop.{ClosesInPart, close_broke, close_cut, close_on, TakesInPart, broke, cut, closing, Stops, between, within}
use Rattle.serve_loop.specs.declared.event.Event.{Event}
use Rattle.serve_loop.specs.declared.event.Event.TheVariants as event
use Rattle.serve_loop.specs.declared.out.Out.{Out}
use Rattle.serve_loop.proofs.Completing.{delivers_all, closes_all}
use Rattle.serve_loop.proofs.Outputs.{delivers_then}

-- each closing has its step
abbrev pub CanClose : {S : Type 0} → (S → ℕ → Event → List Out → S → Type 0) → Type 0
CanClose {S} Step = (moment : ℕ) (state : S) (connection : ℕ) → (outs : List Out) × (next : S) × Step state moment (event.Closed connection) outs next

-- closings that go on from these outputs
pub record IsClosedOn {S : Type 0} (Step : S → ℕ → Event → List Out → S → Type 0) (moment : ℕ) (state : S) (waiting : List ℕ) (gone : List Sent) : Type 0 where
  pub whole : List Sent
  pub failed : List ℕ
  pub next : S
  pub rest : List Sent
  pub closes : Closes Step moment state waiting whole failed next
  pub whole_is : whole ≡ gone ++ rest

closed_on : {S : Type 0} (Step : S → ℕ → Event → List Out → S → Type 0) (Stands : S → Type 0) (Breaks : S → ℕ → Event → Type 0) (can : CanClose Step) (moment : ℕ) (state : S) (waiting : List ℕ) (gone : List Sent) (failed : List ℕ)
    → ClosesInPart Step Stands Breaks moment state waiting gone failed → IsClosedOn Step moment state waiting gone
closed_on Step Stands Breaks can moment state waiting gone failed (close_broke {connection = connection} {waiting = left} breaks) =
    let all = closes_all Step moment (can moment) (connection ∷ left) state in
    record { whole = all.0; failed = []; next = all.1; rest = all.0; closes = all.2; whole_is = refl }
closed_on Step Stands Breaks can moment state waiting gone failed (close_cut {mid = mid} {connection = connection} {waiting = left} outs rest step delivers stands) =
    let more = delivers_all (left ++ failed) rest in
    let here = delivers_then left outs rest gone more.0 failed [] delivers more.1 in
    let all = closes_all Step moment (can moment) (left ++ (failed ++ [])) mid in
    record {
      whole = (gone ++ more.0) ++ all.0;
      failed = (failed ++ []) ++ [];
      next = all.1;
      rest = more.0 ++ all.0;
      closes = one_closes (gone ++ more.0) all.0 (failed ++ []) [] step here all.2;
      whole_is = append_assoc gone more.0 all.0;
    }
closed_on Step Stands Breaks can moment state waiting gone failed (close_on {mid = mid} {connection = connection} {waiting = left} first later fails more step delivers part) =
    let on = closed_on Step Stands Breaks can moment mid (left ++ fails) later more part in
    record {
      whole = first ++ on.whole;
      failed = fails ++ on.failed;
      next = on.next;
      rest = on.rest;
      closes = one_closes first on.whole fails on.failed step delivers on.closes;
      whole_is = ap (λ (l : List Sent). first ++ l) on.whole_is ∙ sym (append_assoc first later on.rest);
    }

-- an event that is taken whole, from these outputs on
pub record IsTakenOn {S : Type 0} (Step : S → ℕ → Event → List Out → S → Type 0) (moment : ℕ) (state : S) (event : Event) (gone : List Sent) : Type 0 where
  pub whole : List Sent
  pub failed : List ℕ
  pub next : S
  pub rest : List Sent
  pub takes : Takes Step moment state (Some event) whole failed next
  pub whole_is : whole ≡ gone ++ rest

taken_on : {S : Type 0} (Step : S → ℕ → Event → List Out → S → Type 0) (Stands : S → Type 0) (Breaks : S → ℕ → Event → Type 0) (can : CanClose Step) (moment : ℕ) (state : S) (event : Event) (gone : List Sent) (failed : List ℕ)
    → TakesInPart Step Stands Breaks moment state event gone failed → (gone ≡ []) ⊎ IsTakenOn Step moment state event gone
taken_on Step Stands Breaks can moment state event gone failed (broke breaks) = inl refl
taken_on Step Stands Breaks can moment state event gone failed (cut {mid = mid} outs rest step delivers stands) =
    let more = delivers_all ([] ++ failed) rest in
    let here = delivers_then [] outs rest gone more.0 failed [] delivers more.1 in
    let all = closes_all Step moment (can moment) (failed ++ []) mid in
    inr (record {
      whole = (gone ++ more.0) ++ all.0;
      failed = (failed ++ []) ++ [];
      next = all.1;
      rest = more.0 ++ all.0;
      takes = taken (gone ++ more.0) all.0 (failed ++ []) [] step here all.2;
      whole_is = append_assoc gone more.0 all.0;
    })
taken_on Step Stands Breaks can moment state event gone failed (closing {mid = mid} first later fails more step delivers part) =
    let on = closed_on Step Stands Breaks can moment mid fails later more part in
    inr (record {
      whole = first ++ on.whole;
      failed = fails ++ on.failed;
      next = on.next;
      rest = on.rest;
      takes = taken first on.whole fails on.failed step delivers on.closes;
      whole_is = ap (λ (l : List Sent). first ++ l) on.whole_is ∙ sym (append_assoc first later on.rest);
    })

-- a whole run that sends this first, over these events or over all but the last of them
pub record IsBegun {S : Type 0} (Step : S → ℕ → Event → List Out → S → Type 0) (first : S) (events : List PortEvent) (gone : List Sent) : Type 0 where
  pub moments : List ℕ
  pub given : List PortEvent
  pub whole : List Sent
  pub failed : List ℕ
  pub next : S
  pub rest : List Sent
  pub runs : Runs Step first moments given whole failed next
  pub given_is : (given ≡ events) ⊎ ((last : PortEvent) × (events ≡ given ++ last ∷ []))
  pub whole_is : whole ≡ gone ++ rest

pub stopped_begun : {S : Type 0} (Step : S → ℕ → Event → List Out → S → Type 0) (Stands : S → Type 0) (Breaks : S → ℕ → Event → Type 0) (can : CanClose Step) (first : S) (moments : List ℕ) (events : List PortEvent) (gone : List Sent) (failed : List ℕ)
    → Stops Step Stands Breaks first moments events gone failed → IsBegun Step first events gone
stopped_begun Step Stands Breaks can first moments events gone failed (between {state = state} runs stands) =
    record { moments = moments; given = events; whole = gone; failed = failed; next = state; rest = []; runs = runs; given_is = inl refl; whole_is = sym (append-nil gone) }
stopped_begun Step Stands Breaks can first all events gone failed (within {state = state} moments moment before given one sent later fails more runs is part) =
    elim (taken_on Step Stands Breaks can moment state one later more part) [
      | inl none ↦ record {
        moments = moments;
        given = before;
        whole = sent;
        failed = fails;
        next = state;
        rest = [];
        runs = runs;
        given_is = inr (given, refl);
        whole_is = sym (append-nil (sent ++ later) ∙ ap (λ (l : List Sent). sent ++ l) none ∙ append-nil sent);
      }
      | inr on ↦
          let Q : Option Event → Type 0 = λ e. Takes Step moment state e on.whole on.failed on.next in
          record {
            moments = moments ++ moment ∷ [];
            given = before ++ given ∷ [];
            whole = sent ++ on.whole;
            failed = fails ++ on.failed;
            next = on.next;
            rest = on.rest;
            runs = goes_on moments before sent on.whole fails on.failed moment given runs (subst Q (sym is) on.takes);
            given_is = inl refl;
            whole_is = ap (λ (l : List Sent). sent ++ l) on.whole_is ∙ sym (append_assoc sent later on.rest);
          }
    ]
