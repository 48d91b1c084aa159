use Rattle.std.proofs.Common.{◌≡◌, ◌++◌, List, ℕ, refl, sym, subst}
use Rattle.std.proofs.lemmas.Result.{IfOk-weaker}
use Rattle.client_copy.specs.View.{NoClash}
use Rattle.pad_client.specs.Sync.{own_messages}
use Rattle.pad_seat.specs.Calls.{GivesOut}
use Rattle.pad_seat.specs.State.{View, StandsAs}
use Rattle.pad_seat.proofs.Calling.{repairs, counted_one}
use Rattle.pad_seat.proofs.seat.Seat.repair.Goals as goal

pub returns-clause-does : goal.returns-clause-does
returns-clause-does g c =
    let i = c.self.inside in
    let held : View = record { client = i.client; connected = i.connected; up = i.up; down = i.down } in
    IfOk-weaker c.sends_one.result _ _ (λ printed so seat stands clash.
    let stood = subst (λ (v : View). StandsAs v seat) (sym c.self.view_is) stands in
    repairs c.args.line held c.sends_one.new.self c.repair-made.new.self seat c.repair-made.result printed stood
    (IfOk-weaker c.repair-made.result _ _ (λ wire begins. begins seat.client stood.client (subst (λ (v : View). NoClash (own_messages v.client.requests.outbox ++ seat.client.copy.pad.all)) (sym c.self.view_is) clash)) c.repair-made.ensures.begins)
    c.repair-made.ensures.cause c.repair-made.ensures.unchanged so)
    c.sends_one.ensures.answers

pub returns-clause-counts : goal.returns-clause-counts
returns-clause-counts g c =
    let i = c.self.inside in
    let held : View = record { client = i.client; connected = i.connected; up = i.up; down = i.down } in
    IfOk-weaker c.sends_one.result _ _ (λ printed so.
    subst (λ (v : View). GivesOut 1 0 v c.sends_one.new.self) c.self.view_is
    (counted_one c.args.line held c.sends_one.new.self c.repair-made.new.self c.repair-made.result printed c.repair-made.ensures.last c.repair-made.ensures.strokes so))
    c.sends_one.ensures.answers
