use Rattle.std.proofs.Common.{◌≡◌, sym, subst}
use Rattle.std.proofs.lemmas.Result.{IfOk-weaker}
use Rattle.pad_seat.specs.State.{View, StandsAs}
use Rattle.pad_seat.proofs.seat.Seat.show.Goals as goal

pub returns : goal.returns
returns g c = IfOk-weaker c.show.result _ _ (λ report shows seat stands. shows seat.client (subst (λ (v : View). StandsAs v seat) (sym c.self.view_is) stands).client) c.show.ensures
