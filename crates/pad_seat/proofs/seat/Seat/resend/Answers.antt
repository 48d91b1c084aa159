use Rattle.std.proofs.Common.{◌≡◌, ◌∙◌, ◌++◌, List, ℕ, arith, refl, sym, ap, subst}
use Rattle.std.proofs.lemmas.Result.{IfOk-weaker}
use Rattle.client_requests.specs.Calls.{Resends}
use Rattle.client_requests.specs.Refusal.{IsOpenCause}
use Rattle.client_requests.specs.State as requested
use Rattle.pad_client.specs.State.{with_requests}
use Rattle.pad_client.specs.View as views
use Rattle.pad_seat.specs.Calls.{IsCause, GivesOut}
use Rattle.pad_seat.specs.Lines.{call_word}
use Rattle.pad_seat.specs.State.{View, StandsAs, SeatState}
use Rattle.pad_seat.specs.Texts.{sends}
use Rattle.pad_seat.proofs.Calling.{was_done, was_refused, requested_stands, counted, counted_none}
use Rattle.pad_seat.proofs.seat.Seat.resend.Goals as goal

pub returns-clause-does : goal.returns-clause-does
returns-clause-does g c seat stands =
    let i = c.self.inside in
    let held : View = record { client = i.client; connected = i.connected; up = i.up; down = i.down } in
    let stood = subst (λ (v : View). StandsAs v seat) (sym c.self.view_is) stands in
    let resends = c.in-Ok.ensures.resends in
    was_done IsCause (IsOpenCause seat.client.requests) call_word c.args.line _ held c.sends_all.new.self c.resend.new.self seat c.in-Ok.texts c.in_ok-printed.printed
    (with_requests resends.0 seat.client) stood (resends.0, subst (λ (r : requested.State). Resends r c.in-Ok.texts resends.0) stood.client.requests resends.1, refl)
    (subst (λ (v : views.View). views.StandsAs v (with_requests resends.0 seat.client)) (sym resends.2) (requested_stands i.client seat.client resends.0 stood.client))
    c.in_ok-printed.ensures.0 c.in_ok-printed.ensures.1

pub returns-in-Err-clause-does : goal.returns-in-Err-clause-does
returns-in-Err-clause-does g c =
    let i = c.self.inside in
    let held : View = record { client = i.client; connected = i.connected; up = i.up; down = i.down } in
    IfOk-weaker c.told.result _ _ (λ printed so seat stands.
    let stood = subst (λ (v : View). StandsAs v seat) (sym c.self.view_is) stands in
    was_refused IsCause (IsOpenCause seat.client.requests) call_word c.args.line _ held (record held { client = c.resend.new.self }) seat c.in-Err.refused printed stood so.0
    (subst (λ (r : requested.State). IsOpenCause r c.in-Err.refused) stood.client.requests c.in-Err.ensures.cause) so.1 (ap (λ (v : views.View). record held { client = v }) c.in-Err.ensures.unchanged))
    c.told.ensures.told

pub returns-clause-counts : goal.returns-clause-counts
returns-clause-counts g c =
    let i = c.self.inside in
    let held : View = record { client = i.client; connected = i.connected; up = i.up; down = i.down } in
    let strokes = ap (λ (v : views.View). v.copy.strokes) c.in-Ok.ensures.resends.2 in
    subst (λ (v : View). GivesOut 64 0 v c.sends_all.new.self) c.self.view_is
    (counted 64 0 held c.sends_all.new.self c.resend.new.self c.in-Ok.texts c.in-Ok.ensures.last (omega (arith, strokes)) c.in_ok-printed.ensures.1)

pub returns-in-Err-clause-counts : goal.returns-in-Err-clause-counts
returns-in-Err-clause-counts g c =
    let i = c.self.inside in
    let held : View = record { client = i.client; connected = i.connected; up = i.up; down = i.down } in
    let new : View = record held { client = c.resend.new.self } in
    IfOk-weaker c.told.result _ _ (λ printed so. subst (λ (v : View). GivesOut 64 0 v new) c.self.view_is
    (counted_none 64 0 held new (ap (λ (v : views.View). record held { client = v }) c.in-Err.ensures.unchanged)))
    c.told.ensures.told
