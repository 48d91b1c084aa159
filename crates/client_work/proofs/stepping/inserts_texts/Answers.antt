use Rattle.std.proofs.Common.{◌<◌, ◌+◌, ◌∷◌, [], length, take, get_or, sym, subst, arith}
use Rattle.std.specs.List.{All}
use Rattle.std.proofs.lemmas.List.{take_more}
use Rattle.std.proofs.lemmas.List.Elements.{All-nil, All-cons, All-append}
use Rattle.client_work.proofs.Grounds.{InsertsText}
use Rattle.client_work.proofs.stepping.inserts_texts.Goals as goal

pub loop-op-preserved : goal.loop-op-preserved
loop-op-preserved c =
    let ops = c.as_slice-op-items.result.now in
    let same = c.as_slice-op-items.ensures in
    let index = c.loop-op.op-index in
    let op = c.op-item.result in
    let within : index < length ops = omega arith in
    let before = subst (λ os. All InsertsText (take index os)) (sym same) c.loop-op.invariant in
    subst (λ os. All InsertsText (take (index + 1) os)) same
    (subst (All InsertsText) (sym (take_more ops index op within))
    (All-append InsertsText (take index ops) (get_or ops index op ∷ []) before
    (All-cons InsertsText (get_or ops index op) [] (subst InsertsText c.op-item.is c.as_units-units.ensures.text) (All-nil InsertsText))))
