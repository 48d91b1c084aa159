use Rattle.std.proofs.Common.{inl, inr, arith}
use Rattle.std.proofs.lemmas.Option.{slice_get-get_or}
use Rattle.pad_model.specs.Choice.{Overtakes}
use Rattle.pad_plain.proofs.Counting.{count_step, count_end}
use Rattle.pad_plain.proofs.Answering.{overtaker_linked}
use Rattle.pad_plain.proofs.overtaking.count_overtaking.Goals as goal
use Rattle.pad_plain.proofs.overtaking.count_overtaking.Goals.{then-branch, else-branch}

pub loop-candidate-preserved : goal.loop-candidate-preserved
loop-candidate-preserved c =
    elim c.if-branch.branch [
      | then-branch w ↦ record {
        few = omega (arith, w.more-is, c.loop-candidate.invariant.few);
        number = λ d earlier m whole choice is. count_step c.args.base.now c.args.received.now (Overtakes c.args.base.now earlier m choice) d (λ x o. (overtaker_linked c.args.base.now c.args.received.now earlier m whole d c.args.before.now choice is x o).1.0.member) c.args.candidates.now c.requires.each _ _ _ _ (slice_get-get_or _ _ _ c.loop-candidate-test.true) (c.requires.once d) (c.in_ok-overtakes.ensures d earlier m whole choice is) (c.loop-candidate.invariant.number d earlier m whole choice is) _ (inl (w.if-branch.true, w.more-is));
      }
      | else-branch w ↦ record {
        few = omega (arith, w.more-is, c.loop-candidate.invariant.few);
        number = λ d earlier m whole choice is. count_step c.args.base.now c.args.received.now (Overtakes c.args.base.now earlier m choice) d (λ x o. (overtaker_linked c.args.base.now c.args.received.now earlier m whole d c.args.before.now choice is x o).1.0.member) c.args.candidates.now c.requires.each _ _ _ _ (slice_get-get_or _ _ _ c.loop-candidate-test.true) (c.requires.once d) (c.in_ok-overtakes.ensures d earlier m whole choice is) (c.loop-candidate.invariant.number d earlier m whole choice is) _ (inr (w.if-branch.false, w.more-is));
      }
    ]

pub returns : goal.returns
returns c d earlier m whole choice is =
    count_end c.args.base.now c.args.received.now (Overtakes c.args.base.now earlier m choice) d (λ x o. (overtaker_linked c.args.base.now c.args.received.now earlier m whole d c.args.before.now choice is x o).1.0.member) c.args.candidates.now c.requires.each _ _ c.loop-candidate-test.false (c.requires.every d) (λ x o. overtaker_linked c.args.base.now c.args.received.now earlier m whole d c.args.before.now choice is x o) (c.loop-candidate.invariant.number d earlier m whole choice is)
