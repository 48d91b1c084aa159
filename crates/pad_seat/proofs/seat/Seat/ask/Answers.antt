use Rattle.std.proofs.Common.{◌≡◌, List, ℕ, refl, sym, ap, subst}
use Rattle.std.proofs.lemmas.Result.{IfOk-weaker}
use Rattle.client_requests.specs.Calls.{Asks}
use Rattle.client_requests.specs.Refusal.{IsAskCause}
use Rattle.client_requests.specs.State as requested
use Rattle.pad_seat.specs.Calls.{GivesOut}
use Rattle.pad_seat.specs.State.{View, StandsAs}
use Rattle.pad_seat.proofs.Calling.{answered, one_more, counted_one}
use Rattle.pad_seat.proofs.seat.Seat.ask.Goals as goal

pub returns-clause-does : goal.returns-clause-does
returns-clause-does g c =
    let i = c.self.inside in
    let held : View = record { client = i.client; connected = i.connected; up = i.up; down = i.down } in
    IfOk-weaker c.sends_one.result _ _ (λ printed so seat stands.
    answered (λ requests text next. Asks requests c.args.from text next) IsAskCause c.args.line held c.sends_one.new.self c.ask-made.new.self seat c.ask-made.result printed
    (subst (λ (v : View). StandsAs v seat) (sym c.self.view_is) stands) c.ask-made.ensures.asks c.ask-made.ensures.cause c.ask-made.ensures.unchanged so)
    c.sends_one.ensures.answers

pub returns-clause-counts : goal.returns-clause-counts
returns-clause-counts g c =
    let i = c.self.inside in
    let held : View = record { client = i.client; connected = i.connected; up = i.up; down = i.down } in
    let more = one_more (λ requests text next. Asks requests c.args.from text next) i.client c.ask-made.new.self c.ask-made.result (λ text next makes. ap (λ (r : requested.State). r.last) makes.state) c.ask-made.ensures.asks c.ask-made.ensures.unchanged in
    IfOk-weaker c.sends_one.result _ _ (λ printed so.
    subst (λ (v : View). GivesOut 1 0 v c.sends_one.new.self) c.self.view_is
    (counted_one c.args.line held c.sends_one.new.self c.ask-made.new.self c.ask-made.result printed more.0 more.1 so))
    c.sends_one.ensures.answers
