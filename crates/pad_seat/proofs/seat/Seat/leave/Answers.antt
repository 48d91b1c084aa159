use Rattle.std.proofs.Common.{◌≡◌, List, ℕ, refl, sym, ap, subst}
use Rattle.std.proofs.lemmas.Result.{IfOk-weaker}
use Rattle.client_requests.specs.Calls.{Leaves}
use Rattle.client_requests.specs.Refusal.{IsOpenCause}
use Rattle.client_requests.specs.State as requested
use Rattle.pad_seat.specs.Calls.{GivesOut}
use Rattle.pad_seat.specs.State.{View, StandsAs}
use Rattle.pad_seat.proofs.Calling.{answered, one_more, counted_one}
use Rattle.pad_seat.proofs.seat.Seat.leave.Goals as goal

pub returns-clause-does : goal.returns-clause-does
returns-clause-does g c =
    let i = c.self.inside in
    let held : View = record { client = i.client; connected = i.connected; up = i.up; down = i.down } in
    IfOk-weaker c.sends_one.result _ _ (λ printed so seat stands.
    answered Leaves IsOpenCause c.args.line held c.sends_one.new.self c.leave-made.new.self seat c.leave-made.result printed
    (subst (λ (v : View). StandsAs v seat) (sym c.self.view_is) stands) c.leave-made.ensures.leaves c.leave-made.ensures.cause c.leave-made.ensures.unchanged so)
    c.sends_one.ensures.answers

pub returns-clause-counts : goal.returns-clause-counts
returns-clause-counts g c =
    let i = c.self.inside in
    let held : View = record { client = i.client; connected = i.connected; up = i.up; down = i.down } in
    let more = one_more (Leaves) i.client c.leave-made.new.self c.leave-made.result (λ text next makes. ap (λ (r : requested.State). r.last) makes.state) c.leave-made.ensures.leaves c.leave-made.ensures.unchanged in
    IfOk-weaker c.sends_one.result _ _ (λ printed so.
    subst (λ (v : View). GivesOut 1 0 v c.sends_one.new.self) c.self.view_is
    (counted_one c.args.line held c.sends_one.new.self c.leave-made.new.self c.leave-made.result printed more.0 more.1 so))
    c.sends_one.ensures.answers
