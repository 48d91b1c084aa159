use Rattle.std.proofs.Common.{arith}
use Rattle.pad_patch.proofs.Laid.{laid}
use Rattle.pad_patch.proofs.patch.Patch.length_after.Goals as goal

pub loop-op-init : goal.loop-op-init
loop-op-init c =
    let same = c.as_slice-op-items.ensures in
    rw same (record {
      counted = omega arith;
      laid_out = laid c.args.self.now c.args.size c.requires.ordered c.requires.inside;
    })
