use Rattle.std.proofs.Common.{◌≡◌, ◌-◌, suc, arith}
use Rattle.pad_checkpoint.proofs.MarkLemmas.{found_here, none_here, none_left}
use Rattle.pad_checkpoint.proofs.cuts.last_checkpoint.Goals as goal

pub returns-then-marks-at : goal.returns-then-marks-at
returns-then-marks-at c =
    let one : c.loop-at.at ≡ suc (c.loop-at.at - 1) = omega (arith, c.loop-at-test.true) in
    found_here c.args.marks.now c.args.end c.loop-at.at (c.loop-at.at - 1) _ one (omega arith) c.requires c.loop-at.invariant c.if-marks-at.true

pub loop-at-preserved : goal.loop-at-preserved
loop-at-preserved c =
    let one : c.loop-at.at ≡ suc (c.loop-at.at - 1) = omega (arith, c.loop-at-test.true) in
    none_here c.args.marks.now c.args.end c.loop-at.at (c.loop-at.at - 1) _ one (omega arith) c.requires c.loop-at.invariant c.if-marks-at.false

pub returns : goal.returns
returns c = none_left c.args.marks.now c.args.end c.loop-at.at (omega (arith, c.loop-at-test.false)) c.loop-at.invariant
