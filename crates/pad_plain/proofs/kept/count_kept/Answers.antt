use Rattle.std.proofs.Common.{inl, inr, arith}
use Rattle.std.proofs.lemmas.Option.{slice_get-get_or}
use Rattle.pad_model.specs.Count.{IsKept}
use Rattle.pad_plain.proofs.Counting.{count_step, count_end}
use Rattle.pad_plain.proofs.Answering.{kept_linked}
use Rattle.pad_plain.proofs.kept.count_kept.Goals as goal
use Rattle.pad_plain.proofs.kept.count_kept.Goals.{then-branch, else-branch}

pub loop-candidate-preserved : goal.loop-candidate-preserved
loop-candidate-preserved c =
    elim c.if-branch.branch [
      | then-branch w ↦ record {
        few = omega (arith, w.kept-is, c.loop-candidate.invariant.few);
        number = λ d path root. count_step c.args.base.now c.args.received.now (IsKept c.args.base.now c.args.received.now path) d (λ m h. h.1.0.member) c.args.candidates.now c.requires.each _ _ _ _ (slice_get-get_or _ _ _ c.loop-candidate-test.true) (c.requires.once d) (c.in_ok-is_kept.ensures d path root) (c.loop-candidate.invariant.number d path root) _ (inl (w.if-branch.true, w.kept-is));
      }
      | else-branch w ↦ record {
        few = omega (arith, w.kept-is, c.loop-candidate.invariant.few);
        number = λ d path root. count_step c.args.base.now c.args.received.now (IsKept c.args.base.now c.args.received.now path) d (λ m h. h.1.0.member) c.args.candidates.now c.requires.each _ _ _ _ (slice_get-get_or _ _ _ c.loop-candidate-test.true) (c.requires.once d) (c.in_ok-is_kept.ensures d path root) (c.loop-candidate.invariant.number d path root) _ (inr (w.if-branch.false, w.kept-is));
      }
    ]

pub returns-clause-kept : goal.returns-clause-kept
returns-clause-kept c d path root =
    count_end c.args.base.now c.args.received.now (IsKept c.args.base.now c.args.received.now path) d (λ m h. h.1.0.member) c.args.candidates.now c.requires.each _ _ c.loop-candidate-test.false (c.requires.every d) (λ m h. (h.0, h.1)) (c.loop-candidate.invariant.number d path root)
