use Rattle.std.proofs.Common.{◌≡◌, ◌∙◌, ◌≤◌, ◌+◌, List, ℕ, [], length, refl, sym, subst, arith}
use Rattle.std.proofs.lemmas.Grind.{common_steps}
use Rattle.std.proofs.lemmas.List.{nil_from_length}
use Rattle.serve_loop.specs.Inside.Load.{load, KeepsLoad}
use Rattle.serve_loop.specs.Inside.Taken.{IsDelivered, IsCut}
use Rattle.serve_loop.specs.declared.out.Out.{Out}
use Rattle.serve_loop.proofs.Loads.{closed_less}
use Rattle.serve_loop.proofs.Waiting.{IsClosing, closing_none, closing_one, closing_all, closing_broke, closing_cut, first_removed, on_err}
use Rattle.serve_loop.proofs.closing.close_waiting.Goals as goal

pub closings-init : goal.closings-init
closings-init g c = let P = g.P.Port in let M = g.M.Machine in record {
  closing = λ machine state stands. closing_none P.tells M.Step (M.stands c.args.machine.now c.args.world.now) c.args.moment state c.args.waiting.items (P.sent c.args.port.now) (P.failed c.args.port.now) stands;
  ready = c.requires;
  events = λ port. refl;
  counts = (refl, refl);
  leaves = g.met.M.Machine.leaves_itself c.args.world.now;
}

pub returns-in_default-clause-part : goal.returns-in_default-clause-part
returns-in_default-clause-part g c = λ machine state stands.
    let P = g.P.Port in let M = g.M.Machine in
    let rest = c.remove-connection.new.self.items in let connection = c.remove-connection.result in
    let long : 1 ≤ length c.closings.waiting.items = grind (arith, common_steps) in
    let items = first_removed c.closings.waiting.items rest connection long c.remove-connection.ensures.value c.remove-connection.ensures.items in
    let Q : List ℕ → Type 0 = λ w. IsClosing P.tells M.Step (M.stands c.closings.machine c.closings.world) c.args.moment state c.args.waiting.items w (P.sent c.args.port.now) (P.sent c.closings.port) (P.failed c.args.port.now) (P.failed c.closings.port) in
    let here = subst Q items (c.closings.invariant.closing machine state stands) in
    closing_broke P.tells M.Step (M.stands c.closings.machine c.closings.world) (M.stands c.step.new.self c.step.new.world) (λ s m e. M.breaks s m e c.step.new.world) c.args.moment state c.args.waiting.items rest connection
    (P.sent c.args.port.now) (P.sent c.closings.port) (P.failed c.args.port.now) (P.failed c.closings.port) here (c.in_default.ensures.broken machine here.mid here.stands)

pub returns-in_err-deliver-clause-part : goal.returns-in_err-deliver-clause-part
returns-in_err-deliver-clause-part g c = λ machine state stands.
    let P = g.P.Port in let M = g.M.Machine in
    let rest = c.remove-connection.new.self.items in let connection = c.remove-connection.result in
    let long : 1 ≤ length c.closings.waiting.items = grind (arith, common_steps) in
    let items = first_removed c.closings.waiting.items rest connection long c.remove-connection.ensures.value c.remove-connection.ensures.items in
    let Q : List ℕ → Type 0 = λ w. IsClosing P.tells M.Step (M.stands c.closings.machine c.closings.world) c.args.moment state c.args.waiting.items w (P.sent c.args.port.now) (P.sent c.closings.port) (P.failed c.args.port.now) (P.failed c.closings.port) in
    let here = subst Q items (c.closings.invariant.closing machine state stands) in
    let step = c.in-Ok.ensures.step machine here.mid here.stands in
    let R : List Out → Type 0 = λ l. IsCut P.tells rest l (P.sent c.closings.port) (P.sent c.deliver.new.port) (P.failed c.closings.port) (P.failed c.deliver.new.port) in
    on_err c.from_residual.result (closing_cut P.tells M.Step (M.stands c.closings.machine c.closings.world) (M.stands c.step.new.self c.step.new.world) (λ s m e. M.breaks s m e c.step.new.world) c.args.moment state step.0 c.args.waiting.items rest connection c.in-Ok.outs
    (P.sent c.args.port.now) (P.sent c.closings.port) (P.sent c.deliver.new.port) (P.failed c.args.port.now) (P.failed c.closings.port) (P.failed c.deliver.new.port)
    here step.1 step.2 (subst R c.as_slice.ensures (c.in_err-deliver.ensures.cut)))

pub closings-smaller : goal.closings-smaller
closings-smaller g c =
    let M = g.M.Machine in
    let rest = c.remove-connection.new.self.items in let connection = c.remove-connection.result in let after = c.deliver.new.waiting.items in
    let before = M.connected c.closings.machine in let now = M.connected c.step.new.self in
    let long : 1 ≤ length c.closings.waiting.items = grind (arith, common_steps) in
    let items = first_removed c.closings.waiting.items rest connection long c.remove-connection.ensures.value c.remove-connection.ensures.items in
    let K : List Out → Type 0 = λ l. KeepsLoad l rest after in
    let closes = c.in-Ok.ensures.closes in
    let less = closed_less before now rest after connection c.in-Ok.outs closes.0 closes.1 (subst K c.as_slice.ensures c.in_ok-deliver.ensures.load) in
    let L : List ℕ → Type 0 = λ w. load now after + 1 ≤ load before w in
    let smaller : load now after + 1 ≤ load before c.closings.waiting.items = subst L (sym items) less in
    omega (arith, smaller)

pub closings-preserved : goal.closings-preserved
closings-preserved g c = let P = g.P.Port in let M = g.M.Machine in record {
  closing = λ machine state stands.
      let rest = c.remove-connection.new.self.items in let connection = c.remove-connection.result in let after = c.deliver.new.waiting.items in
      let long : 1 ≤ length c.closings.waiting.items = grind (arith, common_steps) in
      let items = first_removed c.closings.waiting.items rest connection long c.remove-connection.ensures.value c.remove-connection.ensures.items in
      let Q : List ℕ → Type 0 = λ w. IsClosing P.tells M.Step (M.stands c.closings.machine c.closings.world) c.args.moment state c.args.waiting.items w (P.sent c.args.port.now) (P.sent c.closings.port) (P.failed c.args.port.now) (P.failed c.closings.port) in
      let here = subst Q items (c.closings.invariant.closing machine state stands) in
      let step = c.in-Ok.ensures.step machine here.mid here.stands in
      let R : List Out → Type 0 = λ l. IsDelivered P.tells rest after l (P.sent c.closings.port) (P.sent c.deliver.new.port) (P.failed c.closings.port) (P.failed c.deliver.new.port) in
      closing_one P.tells M.Step (M.stands c.closings.machine c.closings.world) (M.stands c.step.new.self c.step.new.world) c.args.moment state step.0 c.args.waiting.items rest after connection c.in-Ok.outs
      (P.sent c.args.port.now) (P.sent c.closings.port) (P.sent c.deliver.new.port) (P.failed c.args.port.now) (P.failed c.closings.port) (P.failed c.deliver.new.port)
      here step.1 step.2 (subst R c.as_slice.ensures (c.in_ok-deliver.ensures.delivered));
  ready = c.in-Ok.ensures.ready;
  events = λ port. c.deliver.ensures.events port ∙ c.closings.invariant.events port;
  counts = (c.deliver.ensures.counts.0 ∙ c.closings.invariant.counts.0, c.deliver.ensures.counts.1 ∙ c.closings.invariant.counts.1);
  leaves = g.met.M.Machine.leaves_on c.args.world.now c.closings.world c.step.new.world c.closings.invariant.leaves c.step.ensures.leaves;
}

pub returns-clause-closed : goal.returns-clause-closed
returns-clause-closed g c = λ machine state stands.
    let P = g.P.Port in let M = g.M.Machine in
    let zero : length c.closings.waiting.items ≡ 0 = grind (arith, common_steps) in
    let none : c.closings.waiting.items ≡ [] = nil_from_length c.closings.waiting.items (omega arith) in
    let Q : List ℕ → Type 0 = λ w. IsClosing P.tells M.Step (M.stands c.closings.machine c.closings.world) c.args.moment state c.args.waiting.items w (P.sent c.args.port.now) (P.sent c.closings.port) (P.failed c.args.port.now) (P.failed c.closings.port) in
    closing_all P.tells M.Step (M.stands c.closings.machine c.closings.world) c.args.moment state c.args.waiting.items (P.sent c.args.port.now) (P.sent c.closings.port) (P.failed c.args.port.now) (P.failed c.closings.port)
    (subst Q none (c.closings.invariant.closing machine state stands))
