use Rattle.std.proofs.Common.{◌≡◌, ◌∙◌, ◌∷◌, ◌++◌, ◌+◌, [], List, take, drop, sym, ap, subst}
use Rattle.std.proofs.lemmas.List.{take_more, at_drop_more, take-append-drop}
use Rattle.serve_loop.specs.Hangs.{HangsAfter}
use Rattle.serve_loop.specs.Inside.Load.{KeepsLoad}
use Rattle.serve_loop.specs.Inside.MayHang.{texted_by}
use Rattle.serve_loop.specs.Inside.Taken.{IsDelivered}
use Rattle.serve_loop.specs.declared.out.Out.{Out}
use Rattle.serve_loop.proofs.Loads.{keeps_then}
use Rattle.serve_loop.proofs.Outputs.{cut_at, delivered_then, may_do, hangs_next}
use Rattle.serve_loop.proofs.Waiting.{on_err}
use Rattle.serve_loop.proofs.delivering.deliver.Goals as goal

pub deliver_one-requires : goal.deliver_one-requires
deliver_one-requires g c =
    let outs = c.args.outs.now in let at = c.loop-out.out-index in let out = c.out-item.result in
    let hangs = c.loop-out.invariant.hangs in
    let first : drop at outs ≡ out ∷ drop (at + 1) outs = at_drop_more (λ (l : List Out). l) outs at out c.loop-out-test.true ∙ ap (λ (o : Out). o ∷ drop (at + 1) outs) (sym c.out-item.is) in
    may_do hangs.0 c.loop-out.waiting.items (g.P.Port.spare c.loop-out.port) out (drop (at + 1) outs) (subst (HangsAfter hangs.0) first hangs.1) hangs.2

pub returns-in_err-deliver_one-clause-cut : goal.returns-in_err-deliver_one-clause-cut
returns-in_err-deliver_one-clause-cut g c =
    let P = g.P.Port in let outs = c.args.outs.now in let at = c.loop-out.out-index in
    let same = c.in_err-deliver_one.ensures.same in
    on_err c.from_residual.result (cut_at P.tells c.args.waiting.now.items c.loop-out.waiting.items outs (take at outs) (drop at outs) (P.sent c.args.port.now) (P.sent c.loop-out.port) (P.sent c.deliver_one.new.port)
    (P.failed c.args.port.now) (P.failed c.loop-out.port) (P.failed c.deliver_one.new.port) c.loop-out.invariant.delivered (sym (take-append-drop at outs)) (λ told. (same told).0) (λ told. (same told).1))

pub loop-out-preserved : goal.loop-out-preserved
loop-out-preserved g c =
    let P = g.P.Port in
    let outs = c.args.outs.now in let at = c.loop-out.out-index in let out = c.out-item.result in
    let hangs = c.loop-out.invariant.hangs in
    let first : drop at outs ≡ out ∷ drop (at + 1) outs = at_drop_more (λ (l : List Out). l) outs at out c.loop-out-test.true ∙ ap (λ (o : Out). o ∷ drop (at + 1) outs) (sym c.out-item.is) in
    let front : take (at + 1) outs ≡ take at outs ++ out ∷ [] = take_more outs at out c.loop-out-test.true ∙ ap (λ (o : Out). take at outs ++ o ∷ []) (sym c.out-item.is) in
    let before = c.args.waiting.now.items in let mid = c.loop-out.waiting.items in let after = c.deliver_one.new.waiting.items in
    record {
      delivered =
          let R : List Out → Type 0 = λ l. IsDelivered P.tells before after l (P.sent c.args.port.now) (P.sent c.deliver_one.new.port) (P.failed c.args.port.now) (P.failed c.deliver_one.new.port) in
          subst R (sym front) (delivered_then P.tells before mid after (take at outs) (out ∷ []) (P.sent c.args.port.now) (P.sent c.loop-out.port) (P.sent c.deliver_one.new.port)
          (P.failed c.args.port.now) (P.failed c.loop-out.port) (P.failed c.deliver_one.new.port) c.loop-out.invariant.delivered c.in_ok-deliver_one.ensures.delivered);
      events = λ told. c.deliver_one.ensures.events told ∙ c.loop-out.invariant.events told;
      counts = (c.deliver_one.ensures.counts.0 ∙ c.loop-out.invariant.counts.0, c.deliver_one.ensures.counts.1 ∙ c.loop-out.invariant.counts.1);
      load =
          let K : List Out → Type 0 = λ l. KeepsLoad l before after in
          subst K (sym front) (keeps_then before mid after (take at outs) (out ∷ []) c.loop-out.invariant.load c.in_ok-deliver_one.ensures.load);
      hangs = (texted_by out, hangs_next hangs.0 out (drop (at + 1) outs) (subst (HangsAfter hangs.0) first hangs.1), c.in_ok-deliver_one.ensures.may_hang);
    }
