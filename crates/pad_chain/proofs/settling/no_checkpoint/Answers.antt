use Rattle.std.proofs.Common.{◌≡◌, ◌+◌, ◌++◌, ◌∷◌, [], List, take, reverse, add-one, sym, ap, ◌∙◌, subst}
use Rattle.std.proofs.Math.Seq.{take-suc}
use Rattle.pad_branch.specs.declared.undo.Undo.{Undo}
use Rattle.pad_chain.specs.Inside.Marks.{NoneIsCheckpoint}
use Rattle.pad_chain.proofs.NoCut.{none_next}
use Rattle.pad_chain.proofs.settling.no_checkpoint.Goals as goal

pub loop-undo-preserved : goal.loop-undo-preserved
loop-undo-preserved c =
    let x : Undo = c.undo-item.result in
    let at = c.loop-undo.undo-index in
    let us : List Undo = c.args.undos.now in
    let turn : take (at + 1) us ≡ take at us ++ x ∷ [] = ap (λ k. take k us) (add-one at) ∙ take-suc us at x c.loop-undo-test.true ∙ ap (λ (u : Undo). take at us ++ u ∷ []) (sym c.undo-item.is) in
    subst (λ (ls : List Undo). NoneIsCheckpoint (reverse ls)) (sym turn) (none_next (take at us) x (sym c.is_checkpoint.ensures ∙ c.if-is_checkpoint.false) c.loop-undo.invariant)
