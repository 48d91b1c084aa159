use Rattle.std.proofs.Common.{◌≡◌, ◌∙◌, ◌++◌, List, ℕ, arith, refl, sym, ap, subst}
use Rattle.std.proofs.lemmas.Result.{IfOk-weaker}
use Rattle.client_copy.specs.View.{NoClash}
use Rattle.pad_client.specs.Refusal.{IsSyncCause}
use Rattle.pad_client.specs.Sync.{Syncs, own_messages}
use Rattle.pad_client.specs.View as views
use Rattle.pad_seat.specs.Calls.{IsToldSync, GivesOut}
use Rattle.pad_seat.specs.Lines.{sync_word}
use Rattle.pad_seat.specs.State.{View, StandsAs}
use Rattle.pad_seat.proofs.Calling.{was_done, was_refused, sync_still, full_still, counted, counted_none}
use Rattle.pad_seat.proofs.seat.Seat.sync.Goals as goal

pub returns-clause-does : goal.returns-clause-does
returns-clause-does g c seat stands clash =
    let i = c.self.inside in
    let held : View = record { client = i.client; connected = i.connected; up = i.up; down = i.down } in
    let stood = subst (λ (v : View). StandsAs v seat) (sym c.self.view_is) stands in
    let sent = c.in_ok-printed.ensures.1 in
    let given = c.in-Ok.ensures.as_sent seat.client stood.client (subst (λ (v : View). NoClash (own_messages v.client.requests.outbox ++ seat.client.copy.pad.all)) sent clash) in
    was_done IsToldSync (IsSyncCause seat.client) sync_word c.args.line (Syncs seat.client) held c.sends_all.new.self c.sync.new.self seat c.in-Ok.texts c.in_ok-printed.printed
    given.0 stood given.1 given.2 c.in_ok-printed.ensures.0 sent

pub returns-in-Err-clause-does : goal.returns-in-Err-clause-does
returns-in-Err-clause-does g c =
    let i = c.self.inside in
    let held : View = record { client = i.client; connected = i.connected; up = i.up; down = i.down } in
    IfOk-weaker c.told_sync.result _ _ (λ printed so seat stands clash.
    let stood = subst (λ (v : View). StandsAs v seat) (sym c.self.view_is) stands in
    was_refused IsToldSync (IsSyncCause seat.client) sync_word c.args.line (Syncs seat.client) held (record held { client = c.sync.new.self }) seat c.in-Err.refused printed stood so.0
    (c.in-Err.ensures.cause seat.client stood.client) so.1 (ap (λ (v : views.View). record held { client = v }) (sync_still c.in-Err.refused i.client c.sync.new.self so.0 c.in-Err.ensures.unchanged)))
    c.told_sync.ensures.told

pub returns-clause-counts : goal.returns-clause-counts
returns-clause-counts g c =
    let i = c.self.inside in
    let held : View = record { client = i.client; connected = i.connected; up = i.up; down = i.down } in
    let strokes = c.in-Ok.ensures.strokes in
    subst (λ (v : View). GivesOut 2 0 v c.sends_all.new.self) c.self.view_is
    (counted 2 0 held c.sends_all.new.self c.sync.new.self c.in-Ok.texts c.in-Ok.ensures.last (omega (arith, strokes)) c.in_ok-printed.ensures.1)

pub returns-in-Err-clause-counts : goal.returns-in-Err-clause-counts
returns-in-Err-clause-counts g c =
    let i = c.self.inside in
    let held : View = record { client = i.client; connected = i.connected; up = i.up; down = i.down } in
    let new : View = record held { client = c.sync.new.self } in
    IfOk-weaker c.told_sync.result _ _ (λ printed so. subst (λ (v : View). GivesOut 2 0 v new) c.self.view_is
    (counted_none 2 0 held new (ap (λ (v : views.View). record held { client = v }) (sync_still c.in-Err.refused i.client c.sync.new.self so.0 c.in-Err.ensures.unchanged))))
    c.told_sync.ensures.told
