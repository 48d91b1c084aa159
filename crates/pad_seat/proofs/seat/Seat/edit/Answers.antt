use Rattle.std.proofs.Common.{◌≡◌, ◌∙◌, List, ℕ, [], arith, refl, sym, ap, subst}
use Rattle.std.proofs.lemmas.Result.{IfOk-weaker}
use Rattle.client_copy.specs.Pad.{committed}
use Rattle.client_copy.specs.View as copies
use Rattle.pad_client.specs.Calls.{Edits}
use Rattle.pad_client.specs.Refusal.{IsEditCause}
use Rattle.pad_client.specs.Report.{shown}
use Rattle.pad_client.specs.View as views
use Rattle.pad_seat.specs.Calls.{IsToldEdit, GivesOut}
use Rattle.pad_seat.specs.Lines.{edit_word}
use Rattle.pad_seat.specs.State.{View, StandsAs}
use Rattle.pad_seat.proofs.Calling.{was_done, was_refused, sends_nothing, edit_cause, counted, counted_none}
use Rattle.pad_seat.proofs.seat.Seat.edit.Goals as goal

pub returns-clause-does : goal.returns-clause-does
returns-clause-does g c seat stands =
    let i = c.self.inside in
    let held : View = record { client = i.client; connected = i.connected; up = i.up; down = i.down } in
    let now : View = record held { client = c.edit.new.self } in
    let stood = subst (λ (v : View). StandsAs v seat) (sym c.self.view_is) stands in
    let given = c.in-Ok.ensures.stands seat.client stood.client in
    was_done IsToldEdit (IsEditCause seat.client.requests (shown seat.client) c.args.op) edit_word c.args.line
    (λ texts client. Edits (committed seat.client.copy.pad) seat.client c.args.op client × (texts ≡ []))
    held now c.edit.new.self seat [] c.nothing.result given.0 stood (given.1, refl) given.2 c.nothing.ensures (sends_nothing now)

pub returns-in-Err-clause-does : goal.returns-in-Err-clause-does
returns-in-Err-clause-does g c =
    let i = c.self.inside in
    let held : View = record { client = i.client; connected = i.connected; up = i.up; down = i.down } in
    IfOk-weaker c.told_edit.result _ _ (λ printed so seat stands.
    let stood = subst (λ (v : View). StandsAs v seat) (sym c.self.view_is) stands in
    let units = sym c.text-units.ensures.is ∙ c.text-units.ensures.stands seat.client stood.client in
    was_refused IsToldEdit (IsEditCause seat.client.requests (shown seat.client) c.args.op) edit_word c.args.line
    (λ texts client. Edits (committed seat.client.copy.pad) seat.client c.args.op client × (texts ≡ []))
    held (record held { client = c.edit.new.self }) seat c.in-Err.refused printed stood so.0
    (edit_cause i.client seat.client c.args.op c.in-Err.refused stood.client units c.in-Err.ensures.cause) so.1 (ap (λ (v : views.View). record held { client = v }) c.in-Err.ensures.unchanged))
    c.told_edit.ensures.told

pub returns-clause-counts : goal.returns-clause-counts
returns-clause-counts g c =
    let i = c.self.inside in
    let held : View = record { client = i.client; connected = i.connected; up = i.up; down = i.down } in
    let now : View = record held { client = c.edit.new.self } in
    let edits = c.in-Ok.ensures.edits in
    let last = ap (λ (v : views.View). v.requests.last) edits.state in
    let strokes = ap (λ (v : views.View). v.copy.strokes) edits.state ∙ ap (λ (v : copies.View). v.strokes) edits.edits.state in
    subst (λ (v : View). GivesOut 0 1 v now) c.self.view_is
    (counted 0 1 held now c.edit.new.self [] (omega (arith, last)) (omega (arith, strokes)) (sends_nothing now))

pub returns-in-Err-clause-counts : goal.returns-in-Err-clause-counts
returns-in-Err-clause-counts g c =
    let i = c.self.inside in
    let held : View = record { client = i.client; connected = i.connected; up = i.up; down = i.down } in
    let new : View = record held { client = c.edit.new.self } in
    IfOk-weaker c.told_edit.result _ _ (λ printed so. subst (λ (v : View). GivesOut 0 1 v new) c.self.view_is
    (counted_none 0 1 held new (ap (λ (v : views.View). record held { client = v }) c.in-Err.ensures.unchanged)))
    c.told_edit.ensures.told
