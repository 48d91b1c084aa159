use Rattle.std.proofs.Common.{◌≡◌, ◌*◌, ◌++◌, drop}
use Rattle.pad_generator.proofs.Turned.{turned}
use Rattle.pad_generator.proofs.blocks.reverse_blocks.Given as goal

abbrev pub invariant-loop-block : goal.invariant-loop-block
invariant-loop-block l = l.contents ≡ turned l.block l.initial.contents ++ drop (16 * l.block) l.initial.contents
