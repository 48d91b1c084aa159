use Rattle.std.proofs.Common.{◌∙◌, List, ℕ, [], sym, subst}
use Rattle.std.proofs.lemmas.Result.{on_ok_weaker}
use Rattle.serve_loop.specs.Inside.Taken.{IsDelivered, IsCut}
use Rattle.serve_loop.specs.declared.out.Out.{Out}
use Rattle.serve_loop.proofs.Waiting.{taken_whole, taken_none, taken_broke, taken_cut, taken_closing, on_err, on_err_map}
use Rattle.serve_loop.proofs.serving.take_event.Goals as goal

pub returns-in-None-clause-taken : goal.returns-in-None-clause-taken
returns-in-None-clause-taken g c = λ machine state stands.
    taken_none g.P.Port.tells g.M.Machine.Step (g.M.Machine.stands c.args.machine.now c.args.world.now) c.args.moment state c.args.event (g.P.Port.sent c.args.port.now) (g.P.Port.failed c.args.port.now) (sym c.hear.ensures ∙ c.in-None.is) stands

pub returns-in_default-clause-part : goal.returns-in_default-clause-part
returns-in_default-clause-part g c = λ machine state stands.
    let M = g.M.Machine in
    taken_broke g.P.Port.tells M.Step (M.stands c.step.new.self c.step.new.world) (λ s m e. M.breaks s m e c.step.new.world) c.args.moment state c.args.event c.in-Some.event (g.P.Port.sent c.args.port.now) (g.P.Port.failed c.args.port.now)
    (sym c.hear.ensures ∙ c.in-Some.is) (c.in_default.ensures.broken machine state stands)

pub returns-in_err-deliver-clause-part : goal.returns-in_err-deliver-clause-part
returns-in_err-deliver-clause-part g c = λ machine state stands.
    let P = g.P.Port in let M = g.M.Machine in
    let step = c.in-Ok.ensures.step machine state stands in
    let R : List ℕ → List Out → Type 0 = λ w l. IsCut P.tells w l (P.sent c.args.port.now) (P.sent c.deliver.new.port) (P.failed c.args.port.now) (P.failed c.deliver.new.port) in
    let part = subst (λ (l : List Out). R [] l) c.as_slice.ensures (subst (λ (w : List ℕ). R w c.as_slice.result.now) c.new-waiting.ensures.items (c.in_err-deliver.ensures.cut)) in
    on_err c.from_residual.result (taken_cut P.tells M.Step (M.stands c.step.new.self c.step.new.world) (λ s m e. M.breaks s m e c.step.new.world) c.args.moment state step.0 c.args.event c.in-Some.event c.in-Ok.outs
    (P.sent c.args.port.now) (P.sent c.deliver.new.port) (P.failed c.args.port.now) (P.failed c.deliver.new.port)
    (sym c.hear.ensures ∙ c.in-Some.is) step.1 step.2 part)

pub returns-clause-taken : goal.returns-clause-taken
returns-clause-taken g c = λ machine state stands.
    let P = g.P.Port in let M = g.M.Machine in
    let step = c.in-Ok.ensures.step machine state stands in
    let after = c.deliver.new.waiting.items in
    let R : List ℕ → List Out → Type 0 = λ w l. IsDelivered P.tells w after l (P.sent c.args.port.now) (P.sent c.deliver.new.port) (P.failed c.args.port.now) (P.failed c.deliver.new.port) in
    let delivered = subst (λ (l : List Out). R [] l) c.as_slice.ensures (subst (λ (w : List ℕ). R w c.as_slice.result.now) c.new-waiting.ensures.items (c.in_ok-deliver.ensures.delivered)) in
    on_ok_weaker c.close_waiting.result
    (taken_whole P.tells M.Step (M.stands c.close_waiting.new.machine c.close_waiting.new.world) c.args.moment state step.0 c.args.event c.in-Some.event c.in-Ok.outs after
    (P.sent c.args.port.now) (P.sent c.deliver.new.port) (P.sent c.close_waiting.new.port) (P.failed c.args.port.now) (P.failed c.deliver.new.port) (P.failed c.close_waiting.new.port)
    (sym c.hear.ensures ∙ c.in-Some.is) step.1 delivered)
    (c.close_waiting.ensures.closed machine step.0 step.2)

pub returns-clause-part : goal.returns-clause-part
returns-clause-part g c = λ machine state stands.
    let P = g.P.Port in let M = g.M.Machine in
    let step = c.in-Ok.ensures.step machine state stands in
    let after = c.deliver.new.waiting.items in
    let R : List ℕ → List Out → Type 0 = λ w l. IsDelivered P.tells w after l (P.sent c.args.port.now) (P.sent c.deliver.new.port) (P.failed c.args.port.now) (P.failed c.deliver.new.port) in
    let delivered = subst (λ (l : List Out). R [] l) c.as_slice.ensures (subst (λ (w : List ℕ). R w c.as_slice.result.now) c.new-waiting.ensures.items (c.in_ok-deliver.ensures.delivered)) in
    on_err_map c.close_waiting.result
    (taken_closing P.tells M.Step (M.stands c.close_waiting.new.machine c.close_waiting.new.world) (λ s m e. M.breaks s m e c.close_waiting.new.world) c.args.moment state step.0 c.args.event c.in-Some.event c.in-Ok.outs after
    (P.sent c.args.port.now) (P.sent c.deliver.new.port) (P.sent c.close_waiting.new.port) (P.failed c.args.port.now) (P.failed c.deliver.new.port) (P.failed c.close_waiting.new.port)
    (sym c.hear.ensures ∙ c.in-Some.is) step.1 delivered)
    (c.close_waiting.ensures.part machine step.0 step.2)
