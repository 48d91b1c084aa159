use Rattle.std.proofs.Common.{◌<◌, ◌-◌, length, drop, reverse, sym, ◌∙◌, subst, arith}
use Rattle.pad_branch.specs.Undo.{Rewinds}
use Rattle.pad_branch.proofs.Undone.{rewinds_here, units_here}
use Rattle.pad_branch.proofs.rewind.rewound.Goals as goal

pub apply_counted-requires : goal.apply_counted-requires
apply_counted-requires g c =
    (rewinds_here c.args.undos.now c.loop-at.at _ (omega (arith, c.loop-at-test.true)) c.loop-at.invariant.high c.index-undos-at.is c.args.root.now c.args.low _ c.loop-at.invariant.rewinds).0

pub loop-at-preserved : goal.loop-at-preserved
loop-at-preserved g c =
    let above : 0 < c.loop-at.at = omega (arith, c.loop-at-test.true) in
    record {
      high = omega (arith, c.loop-at.invariant.high);
      low = omega (arith, c.loop-at-test.true);
      units = c.in_ok-after-2.ensures.after ∙ units_here c.args.undos.now c.loop-at.at _ above c.loop-at.invariant.high c.index-undos-at.is _ _ c.loop-at.invariant.units;
      rewinds = subst (Rewinds c.args.root.now c.args.low (drop (length c.args.undos.now - (c.loop-at.at - 1)) (reverse c.args.undos.now))) (sym c.in_ok-after-2.ensures.after) (rewinds_here c.args.undos.now c.loop-at.at _ above c.loop-at.invariant.high c.index-undos-at.is c.args.root.now c.args.low _ c.loop-at.invariant.rewinds).1;
      taken = omega (arith, c.in_ok-after-2.ensures.counted, c.loop-at.invariant.taken, c.loop-at.invariant.high, above);
    }
