use Rattle.std.proofs.Common.{◌≡◌, ◌∙◌, ◌∷◌, ◌++◌, [], List, ℕ, sym, ap, subst, rules}
use Rattle.pad_edge.specs.declared.sent.Sent.{Sent}
use Rattle.pad_edge.specs.declared.sent.Sent.TheVariants.{HungUp}
use Rattle.serve_loop.specs.Inside.Load.{KeepsLoad}
use Rattle.serve_loop.specs.Inside.Taken.{IsDelivered}
use Rattle.serve_loop.specs.declared.out.Out.TheVariants.{Send}
use Rattle.serve_loop.proofs.Loads.{keeps_failed}
use Rattle.serve_loop.proofs.Outputs.{went, lost, failed_by}
use Rattle.serve_loop.proofs.delivering.send_one.Goals as goal

pub returns-in-Ok-clause-delivered : goal.returns-in-Ok-clause-delivered
returns-in-Ok-clause-delivered g c =
    let P = g.P.Port in let waiting = c.args.waiting.now.items in
    let R : List ℕ → Type 0 = λ now. IsDelivered P.tells waiting now (Send c.args.connection c.args.text.now ∷ []) (P.sent c.args.port.now) (P.sent c.send.new.self) (P.failed c.args.port.now) (P.failed c.send.new.self) in
    subst R (sym c.reserve.ensures.items) (went P.tells waiting c.args.connection c.args.text.now (P.sent c.args.port.now) (P.sent c.send.new.self) (P.failed c.args.port.now) (P.failed c.send.new.self) c.requires
    (λ told. c.in-Ok.ensures.sent told) (λ told. c.in-Ok.ensures.failed told))

pub returns-in-Err-Failed-clause-delivered : goal.returns-in-Err-Failed-clause-delivered
returns-in-Err-Failed-clause-delivered g c =
    let P = g.P.Port in let waiting = c.args.waiting.now.items in
    let pushed : c.push.new.self.items ≡ waiting ++ c.args.connection ∷ [] = search rules in
    let failed : P.tells → P.failed c.send.new.self ≡ P.failed c.args.port.now ++ c.args.connection ∷ [] = λ told.
    failed_by (Unit {0}) (P.failed c.args.port.now) (P.failed c.send.new.self) c.args.connection c.in-Err-Failed.field-0 c.in-Err-Failed.field-0-is (c.in-Err-Failed.ensures.failed told) in
    let R : List ℕ → Type 0 = λ now. IsDelivered P.tells waiting now (Send c.args.connection c.args.text.now ∷ []) (P.sent c.args.port.now) (P.sent c.hang_up.new.self) (P.failed c.args.port.now) (P.failed c.hang_up.new.self) in
    subst R (sym pushed) (lost P.tells waiting c.args.connection c.args.text.now (P.sent c.args.port.now) (P.sent c.hang_up.new.self) (P.failed c.args.port.now) (P.failed c.hang_up.new.self) c.requires
    (λ told. c.hang_up.ensures.sent told ∙ ap (λ (l : List Sent). l ++ HungUp c.args.connection ∷ []) (c.in-Err-Failed.ensures.sent told))
    (λ told. (c.hang_up.ensures.lists told).1 ∙ failed told))

pub returns-in-Err-Failed-clause-load : goal.returns-in-Err-Failed-clause-load
returns-in-Err-Failed-clause-load g c =
    let waiting = c.args.waiting.now.items in
    let pushed : c.push.new.self.items ≡ waiting ++ c.args.connection ∷ [] = search rules in
    let R : List ℕ → Type 0 = λ now. KeepsLoad (Send c.args.connection c.args.text.now ∷ []) waiting now in
    subst R (sym pushed) (keeps_failed waiting c.args.connection c.args.text.now c.requires)
