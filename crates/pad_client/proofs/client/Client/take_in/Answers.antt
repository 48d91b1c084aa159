use Rattle.std.proofs.Common.{subst, sym}
use Rattle.std.proofs.lemmas.Result.{err_from_is_err_and}
use Rattle.pad_client.specs.View.{View, StandsAs}
use Rattle.pad_client.proofs.Noting.{none_runs}
use Rattle.pad_client.proofs.Taking.{adopted, received}
use Rattle.pad_client.proofs.client.Client.take_in.Goals as goal

pub receive-requires-clause-none : goal.receive-requires-clause-none
receive-requires-clause-none g c = rw (c.in_ok-adopted.ensures.refuses c.if-adopted.false).0 c.requires.none

pub returns-then-adopted-clause-hears : goal.returns-then-adopted-clause-hears
returns-then-adopted-clause-hears g c client stands clash more =
    adopted c.adopt.new.self client c.args.entry c.args.message (none_runs client.copy.pad.all c.args.self.now.repair client.repair c.requires.none stands.repair) (c.in_ok-adopted.ensures.adopts c.if-adopted.true client stands clash more)

pub returns-clause-hears : goal.returns-clause-hears
returns-clause-hears g c client stands clash more =
    let refused = c.in_ok-adopted.ensures.refuses c.if-adopted.false in
    received c.receive.new.self client c.args.entry c.args.message c.in_ok-moved.moved (none_runs client.copy.pad.all c.args.self.now.repair client.repair c.requires.none stands.repair) (refused.1 client stands clash)
    (c.in_ok-moved.ensures.room client (subst (λ (v : View). StandsAs v client) (sym refused.0) stands))
    (c.in_ok-moved.ensures.receives client (subst (λ (v : View). StandsAs v client) (sym refused.0) stands) more)

pub returns-in_err-moved-clause-full : goal.returns-in_err-moved-clause-full
returns-in_err-moved-clause-full g c =
    let refused = c.in_ok-adopted.ensures.refuses c.if-adopted.false in
    let told = err_from_is_err_and c.from_residual-in_err-moved.result c.from_residual-in_err-moved.ensures.1 in
    rw (told.1, told.2) (λ is client stands. c.in_err-moved.ensures.full is client (subst (λ (v : View). StandsAs v client) (sym refused.0) stands))

pub returns-in_err-moved-clause-still : goal.returns-in_err-moved-clause-still
returns-in_err-moved-clause-still g c =
    let refused = c.in_ok-adopted.ensures.refuses c.if-adopted.false in
    let told = err_from_is_err_and c.from_residual-in_err-moved.result c.from_residual-in_err-moved.ensures.1 in
    rw (told.1, told.2) (λ is client stands. c.in_err-moved.ensures.still is client (subst (λ (v : View). StandsAs v client) (sym refused.0) stands))
