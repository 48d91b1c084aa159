use Rattle.std.proofs.Common.{◌≡◌, arith, refl, sym, subst}
use Rattle.std.proofs.lemmas.Result.{err_from_is_err_and}
use Rattle.pad_seat.specs.Calls.{GivesOut}
use Rattle.pad_seat.specs.State.{View, StandsAs}
use Rattle.pad_seat.proofs.seat.Seat.hear.Goals as goal

pub returns-clause-hears : goal.returns-clause-hears
returns-clause-hears g c seat stands differs =
    let stood = subst (λ (v : View). StandsAs v seat) (sym c.self.view_is) stands in
    let given = c.in_ok-heard.ensures.hears seat.client stood.client differs in (
      record seat { client = given.0 },
      record { client = given.0; hears = given.1; state = refl },
      record { client = given.2; connected = stood.connected; up = stood.up; down = stood.down },
    )

pub returns-in_err-heard-clause-full : goal.returns-in_err-heard-clause-full
returns-in_err-heard-clause-full g c =
    let told = err_from_is_err_and c.from_residual.result c.from_residual.ensures.1 in
    rw told.1 (λ full seat stands. c.in_err-heard.ensures.full (told.2.0 full) seat.client (subst (λ (v : View). StandsAs v seat) (sym c.self.view_is) stands).client)

pub returns-in_err-heard-clause-still : goal.returns-in_err-heard-clause-still
returns-in_err-heard-clause-still g c =
    let told = err_from_is_err_and c.from_residual.result c.from_residual.ensures.1 in
    rw told.1 (λ full seat stands.
    let stood = subst (λ (v : View). StandsAs v seat) (sym c.self.view_is) stands in
    record { client = c.in_err-heard.ensures.still (told.2.0 full) seat.client stood.client; connected = stood.connected; up = stood.up; down = stood.down })

pub returns-clause-counts : goal.returns-clause-counts
returns-clause-counts g c =
    let i = c.self.inside in
    let held : View = record { client = i.client; connected = i.connected; up = i.up; down = i.down } in
    let last = c.in_ok-heard.ensures.last in
    let strokes = c.in_ok-heard.ensures.strokes in
    subst (λ (v : View). GivesOut 0 0 v (record held { client = c.hear.new.self })) c.self.view_is (omega (arith, last), omega (arith, strokes))
