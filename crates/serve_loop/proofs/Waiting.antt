-- Connections that wait, closed one after another.
use Rattle.std.proofs.Common.{◌≡◌, ◌∙◌, ℕ, ◌+◌, ◌≤◌, List, [], ◌∷◌, ◌++◌, length, zero, suc, add-one, refl, sym, ap, subst, arith}
use Rattle.std.proofs.lemmas.List.{append-nil, append_assoc}
use Rattle.serve_loop.specs.declared.event.Event.{Event}
use Rattle.serve_loop.specs.declared.event.Event.TheVariants as event
use Rattle.serve_loop.specs.declared.out.Out.{Out}
use Rattle.pad_edge.specs.declared.sent.Sent.{Sent}
use Rattle.serve_loop.specs.Delivery.{Delivers}
use Rattle.serve_loop.specs.Inside.Taken.{IsDelivered, IsCut, IsClosed, IsClosedInPart, IsTaken, IsTakenInPart}
use Rattle.serve_loop.specs.Stop.{ClosesInPart, close_broke, close_cut, close_on, broke, cut, closing}
use Rattle.std.specs.Prelude.{slice_index_or, Option, Some, None, Result, Ok, Err, OnErr}
use Rattle.std.specs.List.{remove}
use Rattle.pad_edge.specs.declared.port_event.PortEvent.{PortEvent}
use Rattle.serve_loop.specs.Run.{heard, Closes, none_waits, one_closes, Takes, unheard, taken}

pub on_err : {T E P : Type 0} (answer : Result T E) → P → OnErr answer P
on_err (Ok value) holds = tt
on_err (Err refused) holds = holds

pub on_err_map : {T E P Q : Type 0} (answer : Result T E) → (P → Q) → OnErr answer P → OnErr answer Q
on_err_map (Ok value) more holds = tt
on_err_map (Err refused) more holds = more holds

-- so many closings were done, and these connections are left
pub data ClosesTo {S : Type 0} (Step : S → ℕ → Event → List Out → S → Type 0) (moment : ℕ) (state : S) (waiting : List ℕ) : (gone : List Sent) → (failed : List ℕ) → S → (left : List ℕ) → Type 0 where
  none_yet : ClosesTo Step moment state waiting [] [] state waiting
  one_more : {mid next : S} {left : List ℕ} {outs : List Out} (gone later : List Sent) (failed more : List ℕ) (connection : ℕ)
      → ClosesTo Step moment state waiting gone failed mid (connection ∷ left)
      → Step mid moment (event.Closed connection) outs next
      → Delivers left outs later more
      → ClosesTo Step moment state waiting (gone ++ later) (failed ++ more) next (left ++ more)

-- whatever closes the rest closes all
pub then_closes : {S : Type 0} (Step : S → ℕ → Event → List Out → S → Type 0) (moment : ℕ) (state : S) (waiting : List ℕ) (gone : List Sent) (failed : List ℕ) (mid : S) (left : List ℕ)
    → ClosesTo Step moment state waiting gone failed mid left → (later : List Sent) (more : List ℕ) (last : S) → Closes Step moment mid left later more last
    → Closes Step moment state waiting (gone ++ later) (failed ++ more) last
then_closes Step moment state waiting gone failed mid left none_yet later more last closes = closes
then_closes Step moment state waiting gone failed mid left (one_more {mid = before} {next = next} {left = rest} {outs = outs} first second fails others connection chain step delivers) later more last closes =
    let whole = then_closes Step moment state waiting first fails before (connection ∷ rest) chain (second ++ later) (others ++ more) last (one_closes second later others more step delivers closes) in
    let Q : List Sent → Type 0 = λ s. Closes Step moment state waiting s (fails ++ (others ++ more)) last in
    let R : List ℕ → Type 0 = λ f. Closes Step moment state waiting ((first ++ second) ++ later) f last in
    subst R (sym (append_assoc fails others more)) (subst Q (sym (append_assoc first second later)) whole)

-- whatever closes the rest in part closes all in part
pub then_in_part : {S : Type 0} (Step : S → ℕ → Event → List Out → S → Type 0) (Stands : S → Type 0) (Breaks : S → ℕ → Event → Type 0) (moment : ℕ) (state : S) (waiting : List ℕ) (gone : List Sent) (failed : List ℕ) (mid : S) (left : List ℕ)
    → ClosesTo Step moment state waiting gone failed mid left → (later : List Sent) (more : List ℕ) → ClosesInPart Step Stands Breaks moment mid left later more
    → ClosesInPart Step Stands Breaks moment state waiting (gone ++ later) (failed ++ more)
then_in_part Step Stands Breaks moment state waiting gone failed mid left none_yet later more closes = closes
then_in_part Step Stands Breaks moment state waiting gone failed mid left (one_more {mid = before} {next = next} {left = rest} {outs = outs} first second fails others connection chain step delivers) later more closes =
    let whole = then_in_part Step Stands Breaks moment state waiting first fails before (connection ∷ rest) chain (second ++ later) (others ++ more) (close_on second later others more step delivers closes) in
    let Q : List Sent → Type 0 = λ s. ClosesInPart Step Stands Breaks moment state waiting s (fails ++ (others ++ more)) in
    let R : List ℕ → Type 0 = λ f. ClosesInPart Step Stands Breaks moment state waiting ((first ++ second) ++ later) f in
    subst R (sym (append_assoc fails others more)) (subst Q (sym (append_assoc first second later)) whole)

-- so far, by what a port tells
pub record IsClosing {S : Type 0} (tells : Type 0) (Step : S → ℕ → Event → List Out → S → Type 0) (Stands : S → Type 0) (moment : ℕ) (state : S) (waiting left : List ℕ)
    (sent_before sent_now : List Sent) (failed_before failed_now : List ℕ) : Type 0 where
  pub gone : List Sent
  pub failed : List ℕ
  pub mid : S
  pub chain : ClosesTo Step moment state waiting gone failed mid left
  pub gone_is : tells → sent_now ≡ sent_before ++ gone
  pub failed_is : tells → failed_now ≡ failed_before ++ failed
  pub stands : Stands mid

pub closing_none : {S : Type 0} (tells : Type 0) (Step : S → ℕ → Event → List Out → S → Type 0) (Stands : S → Type 0) (moment : ℕ) (state : S) (waiting : List ℕ) (sent : List Sent) (failed : List ℕ)
    → Stands state → IsClosing tells Step Stands moment state waiting waiting sent sent failed failed
closing_none tells Step Stands moment state waiting sent failed stands = record {
  gone = [];
  failed = [];
  mid = state;
  chain = none_yet;
  gone_is = λ told. sym (append-nil sent);
  failed_is = λ told. sym (append-nil failed);
  stands = stands;
}

pub closing_one : {S : Type 0} (tells : Type 0) (Step : S → ℕ → Event → List Out → S → Type 0) (Old New : S → Type 0) (moment : ℕ) (state next : S) (waiting left after : List ℕ) (connection : ℕ) (outs : List Out)
    (sent_before sent_now sent_after : List Sent) (failed_before failed_now failed_after : List ℕ)
    → (so_far : IsClosing tells Step Old moment state waiting (connection ∷ left) sent_before sent_now failed_before failed_now)
    → Step so_far.mid moment (event.Closed connection) outs next → New next
    → IsDelivered tells left after outs sent_now sent_after failed_now failed_after
    → IsClosing tells Step New moment state waiting after sent_before sent_after failed_before failed_after
closing_one tells Step Old New moment state next waiting left after connection outs sent_before sent_now sent_after failed_before failed_now failed_after so_far step stands delivered =
    let P : List ℕ → Type 0 = λ w. ClosesTo Step moment state waiting (so_far.gone ++ delivered.gone) (so_far.failed ++ delivered.failed) next w in
    record {
      gone = so_far.gone ++ delivered.gone;
      failed = so_far.failed ++ delivered.failed;
      mid = next;
      chain = subst P (sym delivered.waiting_is) (one_more so_far.gone delivered.gone so_far.failed delivered.failed connection so_far.chain step delivered.delivers);
      gone_is = λ told. delivered.gone_is told ∙ ap (λ (l : List Sent). l ++ delivered.gone) (so_far.gone_is told) ∙ append_assoc sent_before so_far.gone delivered.gone;
      failed_is = λ told. delivered.failed_is told ∙ ap (λ (l : List ℕ). l ++ delivered.failed) (so_far.failed_is told) ∙ append_assoc failed_before so_far.failed delivered.failed;
      stands = stands;
    }

pub closing_all : {S : Type 0} (tells : Type 0) (Step : S → ℕ → Event → List Out → S → Type 0) (Stands : S → Type 0) (moment : ℕ) (state : S) (waiting : List ℕ)
    (sent_before sent_now : List Sent) (failed_before failed_now : List ℕ)
    → IsClosing tells Step Stands moment state waiting [] sent_before sent_now failed_before failed_now → IsClosed tells Step Stands moment state waiting sent_before sent_now failed_before failed_now
closing_all tells Step Stands moment state waiting sent_before sent_now failed_before failed_now so_far =
    let whole = then_closes Step moment state waiting so_far.gone so_far.failed so_far.mid [] so_far.chain [] [] so_far.mid none_waits in
    let Q : List Sent → Type 0 = λ s. Closes Step moment state waiting s (so_far.failed ++ []) so_far.mid in
    let R : List ℕ → Type 0 = λ f. Closes Step moment state waiting so_far.gone f so_far.mid in
    record {
      gone = so_far.gone;
      failed = so_far.failed;
      next = so_far.mid;
      closes = subst R (append-nil so_far.failed) (subst Q (append-nil so_far.gone) whole);
      gone_is = so_far.gone_is;
      failed_is = so_far.failed_is;
      stands = so_far.stands;
    }

-- a closing wanted memory
pub closing_broke : {S : Type 0} (tells : Type 0) (Step : S → ℕ → Event → List Out → S → Type 0) (Old New : S → Type 0) (Breaks : S → ℕ → Event → Type 0) (moment : ℕ) (state : S) (waiting left : List ℕ) (connection : ℕ)
    (sent_before sent_now : List Sent) (failed_before failed_now : List ℕ)
    → (so_far : IsClosing tells Step Old moment state waiting (connection ∷ left) sent_before sent_now failed_before failed_now)
    → Breaks so_far.mid moment (event.Closed connection)
    → IsClosedInPart tells Step New Breaks moment state waiting sent_before sent_now failed_before failed_now
closing_broke tells Step Old New Breaks moment state waiting left connection sent_before sent_now failed_before failed_now so_far breaks =
    let part = then_in_part Step New Breaks moment state waiting so_far.gone so_far.failed so_far.mid (connection ∷ left) so_far.chain [] [] (close_broke breaks) in
    record {
      gone = so_far.gone ++ [];
      failed = so_far.failed ++ [];
      closes = part;
      gone_is = λ told. so_far.gone_is told ∙ ap (λ (l : List Sent). sent_before ++ l) (sym (append-nil so_far.gone));
      failed_is = λ told. so_far.failed_is told ∙ ap (λ (l : List ℕ). failed_before ++ l) (sym (append-nil so_far.failed));
    }

-- the outputs of a closing were delivered in part
pub closing_cut : {S : Type 0} (tells : Type 0) (Step : S → ℕ → Event → List Out → S → Type 0) (Old New : S → Type 0) (Breaks : S → ℕ → Event → Type 0) (moment : ℕ) (state next : S) (waiting left : List ℕ) (connection : ℕ) (outs : List Out)
    (sent_before sent_now sent_after : List Sent) (failed_before failed_now failed_after : List ℕ)
    → (so_far : IsClosing tells Step Old moment state waiting (connection ∷ left) sent_before sent_now failed_before failed_now)
    → Step so_far.mid moment (event.Closed connection) outs next → New next
    → IsCut tells left outs sent_now sent_after failed_now failed_after
    → IsClosedInPart tells Step New Breaks moment state waiting sent_before sent_after failed_before failed_after
closing_cut tells Step Old New Breaks moment state next waiting left connection outs sent_before sent_now sent_after failed_before failed_now failed_after so_far step stands part =
    let P : List Out → Type 0 = λ o. Step so_far.mid moment (event.Closed connection) o next in
    let last = close_cut part.front part.rest (subst P part.outs_is step) part.delivers stands in
    record {
      gone = so_far.gone ++ part.gone;
      failed = so_far.failed ++ part.failed;
      closes = then_in_part Step New Breaks moment state waiting so_far.gone so_far.failed so_far.mid (connection ∷ left) so_far.chain part.gone part.failed last;
      gone_is = λ told. part.gone_is told ∙ ap (λ (l : List Sent). l ++ part.gone) (so_far.gone_is told) ∙ append_assoc sent_before so_far.gone part.gone;
      failed_is = λ told. part.failed_is told ∙ ap (λ (l : List ℕ). l ++ part.failed) (so_far.failed_is told) ∙ append_assoc failed_before so_far.failed part.failed;
    }

pub first_removed : (items rest : List ℕ) (connection : ℕ) → 1 ≤ length items → connection ≡ slice_index_or items 0 connection → rest ≡ remove items 0 → items ≡ connection ∷ rest
first_removed [] rest connection long is rest_is = absurd (omega arith)
first_removed (item ∷ items) rest connection long is rest_is = ap (λ (c : ℕ). c ∷ items) (sym is) ∙ ap (λ (l : List ℕ). connection ∷ l) (sym rest_is)

-- an event was taken whole
pub taken_whole : {S : Type 0} (tells : Type 0) (Step : S → ℕ → Event → List Out → S → Type 0) (Stands : S → Type 0) (moment : ℕ) (state mid : S) (given : PortEvent) (event : Event) (outs : List Out) (waiting : List ℕ)
    (sent_before sent_mid sent_after : List Sent) (failed_before failed_mid failed_after : List ℕ)
    → heard given ≡ Some event → Step state moment event outs mid → IsDelivered tells [] waiting outs sent_before sent_mid failed_before failed_mid
    → IsClosed tells Step Stands moment mid waiting sent_mid sent_after failed_mid failed_after
    → IsTaken tells Step Stands moment state given sent_before sent_after failed_before failed_after
taken_whole tells Step Stands moment state mid given event outs waiting sent_before sent_mid sent_after failed_before failed_mid failed_after is step delivered closed =
    let P : List ℕ → Type 0 = λ w. Closes Step moment mid w closed.gone closed.failed closed.next in
    let Q : Option Event → Type 0 = λ e. Takes Step moment state e (delivered.gone ++ closed.gone) (delivered.failed ++ closed.failed) closed.next in
    record {
      gone = delivered.gone ++ closed.gone;
      failed = delivered.failed ++ closed.failed;
      next = closed.next;
      takes = subst Q (sym is) (taken delivered.gone closed.gone delivered.failed closed.failed step delivered.delivers (subst P delivered.waiting_is closed.closes));
      gone_is = λ told. closed.gone_is told ∙ ap (λ (l : List Sent). l ++ closed.gone) (delivered.gone_is told) ∙ append_assoc sent_before delivered.gone closed.gone;
      failed_is = λ told. closed.failed_is told ∙ ap (λ (l : List ℕ). l ++ closed.failed) (delivered.failed_is told) ∙ append_assoc failed_before delivered.failed closed.failed;
      stands = closed.stands;
    }

pub taken_none : {S : Type 0} (tells : Type 0) (Step : S → ℕ → Event → List Out → S → Type 0) (Stands : S → Type 0) (moment : ℕ) (state : S) (given : PortEvent) (sent : List Sent) (failed : List ℕ)
    → heard given ≡ None → Stands state → IsTaken tells Step Stands moment state given sent sent failed failed
taken_none tells Step Stands moment state given sent failed is stands =
    let Q : Option Event → Type 0 = λ e. Takes Step moment state e [] [] state in
    record { gone = []; failed = []; next = state; takes = subst Q (sym is) unheard; gone_is = λ told. sym (append-nil sent); failed_is = λ told. sym (append-nil failed); stands = stands }

-- the step of an event wanted memory
pub taken_broke : {S : Type 0} (tells : Type 0) (Step : S → ℕ → Event → List Out → S → Type 0) (New : S → Type 0) (Breaks : S → ℕ → Event → Type 0) (moment : ℕ) (state : S) (given : PortEvent) (event : Event) (sent : List Sent) (failed : List ℕ)
    → heard given ≡ Some event → Breaks state moment event → IsTakenInPart tells Step New Breaks moment state given sent sent failed failed
taken_broke tells Step New Breaks moment state given event sent failed is breaks =
    record { gone = []; failed = []; event = event; event_is = is; takes = broke breaks; gone_is = λ told. sym (append-nil sent); failed_is = λ told. sym (append-nil failed) }

-- its outputs were delivered in part
pub taken_cut : {S : Type 0} (tells : Type 0) (Step : S → ℕ → Event → List Out → S → Type 0) (New : S → Type 0) (Breaks : S → ℕ → Event → Type 0) (moment : ℕ) (state mid : S) (given : PortEvent) (event : Event) (outs : List Out)
    (sent_before sent_after : List Sent) (failed_before failed_after : List ℕ)
    → heard given ≡ Some event → Step state moment event outs mid → New mid → IsCut tells [] outs sent_before sent_after failed_before failed_after
    → IsTakenInPart tells Step New Breaks moment state given sent_before sent_after failed_before failed_after
taken_cut tells Step New Breaks moment state mid given event outs sent_before sent_after failed_before failed_after is step stands part =
    let P : List Out → Type 0 = λ o. Step state moment event o mid in
    record { gone = part.gone; failed = part.failed; event = event; event_is = is; takes = cut part.front part.rest (subst P part.outs_is step) part.delivers stands; gone_is = part.gone_is; failed_is = part.failed_is }

-- the closings after it stopped
pub taken_closing : {S : Type 0} (tells : Type 0) (Step : S → ℕ → Event → List Out → S → Type 0) (New : S → Type 0) (Breaks : S → ℕ → Event → Type 0) (moment : ℕ) (state mid : S) (given : PortEvent) (event : Event) (outs : List Out) (waiting : List ℕ)
    (sent_before sent_mid sent_after : List Sent) (failed_before failed_mid failed_after : List ℕ)
    → heard given ≡ Some event → Step state moment event outs mid → IsDelivered tells [] waiting outs sent_before sent_mid failed_before failed_mid
    → IsClosedInPart tells Step New Breaks moment mid waiting sent_mid sent_after failed_mid failed_after
    → IsTakenInPart tells Step New Breaks moment state given sent_before sent_after failed_before failed_after
taken_closing tells Step New Breaks moment state mid given event outs waiting sent_before sent_mid sent_after failed_before failed_mid failed_after is step delivered closed =
    let P : List ℕ → Type 0 = λ w. ClosesInPart Step New Breaks moment mid w closed.gone closed.failed in
    record {
      gone = delivered.gone ++ closed.gone;
      failed = delivered.failed ++ closed.failed;
      event = event;
      event_is = is;
      takes = closing delivered.gone closed.gone delivered.failed closed.failed step delivered.delivers (subst P delivered.waiting_is closed.closes);
      gone_is = λ told. closed.gone_is told ∙ ap (λ (l : List Sent). l ++ closed.gone) (delivered.gone_is told) ∙ append_assoc sent_before delivered.gone closed.gone;
      failed_is = λ told. closed.failed_is told ∙ ap (λ (l : List ℕ). l ++ closed.failed) (delivered.failed_is told) ∙ append_assoc failed_before delivered.failed closed.failed;
    }
