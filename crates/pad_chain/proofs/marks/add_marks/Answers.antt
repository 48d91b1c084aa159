use Rattle.std.proofs.Common.{◌≡◌, ◌+◌, ◌++◌, ◌∷◌, [], List, take, length, add-one, sym, ap, ◌∙◌, append_assoc, arith}
use Rattle.std.proofs.lemmas.List.{length-take}
use Rattle.std.proofs.Math.Seq.{take-suc}
use Rattle.pad_checkpoint.specs.declared.path_mark.PathMark.{PathMark}
use Rattle.pad_branch.specs.declared.undo.Undo.{Undo}
use Rattle.pad_chain.specs.Inside.Marks.{mark_at, marks_from}
use Rattle.pad_chain.proofs.PathMarks.{marks_push}
use Rattle.pad_chain.proofs.marks.add_marks.Goals as goal

pub loop-undo-preserved : goal.loop-undo-preserved
loop-undo-preserved c =
    let x : Undo = c.undo-item.result in
    let at = c.loop-undo.undo-index in
    let us : List Undo = c.args.undos.now in
    let turn : take (at + 1) us ≡ take at us ++ x ∷ [] = ap (λ k. take k us) (add-one at) ∙ take-suc us at x c.loop-undo-test.true ∙ ap (λ (u : Undo). take at us ++ u ∷ []) (sym c.undo-item.is) in
    let high : c.loop-undo.height + 1 ≡ c.args.low + length (take at us) + 1 = omega (arith, c.loop-undo.invariant.high, c.loop-undo-test.true, length-take at us) in
    let mark : c.mark_at.result ≡ mark_at x (c.args.low + length (take at us) + 1) = c.mark_at.ensures ∙ ap (mark_at x) high in
    record {
      high = omega (arith, c.loop-undo.invariant.high);
      marks = c.in_ok-push.ensures.items ∙ ap (λ (ms : List PathMark). ms ++ c.mark_at.result ∷ []) c.loop-undo.invariant.marks ∙ append_assoc c.args.marks.now.items (marks_from c.args.low (take at us)) (c.mark_at.result ∷ [])
          ∙ ap (λ (ms : List PathMark). c.args.marks.now.items ++ ms) (ap (λ (m : PathMark). marks_from c.args.low (take at us) ++ m ∷ []) mark ∙ sym (ap (marks_from c.args.low) turn ∙ marks_push c.args.low (take at us) x));
    }
