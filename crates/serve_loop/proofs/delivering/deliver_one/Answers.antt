use Rattle.std.proofs.Common.{◌≡◌, true, false, arith}
use Rattle.std.proofs.lemmas.Grind.{common_steps}
use Rattle.serve_loop.specs.Connected.{is_among}
use Rattle.serve_loop.proofs.Outputs.{left_out, hung_up, hang_left_out}
use Rattle.serve_loop.proofs.delivering.deliver_one.Goals as goal

pub returns-then-contains-clause-delivered : goal.returns-then-contains-clause-delivered
returns-then-contains-clause-delivered g c =
    let among : is_among c.args.waiting.now.items c.in-Send.connection ≡ true = grind (arith, common_steps) in
    rw c.in-Send.is (left_out g.P.Port.tells c.args.waiting.now.items c.in-Send.connection _ (g.P.Port.sent c.args.port.now) (g.P.Port.failed c.args.port.now) among)

pub returns-else-not-contains-clause-delivered : goal.returns-else-not-contains-clause-delivered
returns-else-not-contains-clause-delivered g c =
    let among : is_among c.args.waiting.now.items c.in-HangUp.connection ≡ true = grind (arith, common_steps) in
    rw c.in-HangUp.is (hang_left_out g.P.Port.tells c.args.waiting.now.items c.in-HangUp.connection (g.P.Port.sent c.args.port.now) (g.P.Port.failed c.args.port.now) among)

pub returns-then-not-contains-clause-delivered : goal.returns-then-not-contains-clause-delivered
returns-then-not-contains-clause-delivered g c =
    let P = g.P.Port in
    let among : is_among c.args.waiting.now.items c.in-HangUp.connection ≡ false = grind (arith, common_steps) in
    rw c.in-HangUp.is (hung_up P.tells c.args.waiting.now.items c.in-HangUp.connection (P.sent c.args.port.now) (P.sent c.hang_up.new.self) (P.failed c.args.port.now) (P.failed c.hang_up.new.self) among
    (λ told. c.hang_up.ensures.sent told) (λ told. (c.hang_up.ensures.lists told).1))
