-- the units so far and those of the pieces left make up the whole copy, and the operations left stand in order after the place
use Rattle.std.proofs.Common.{◌≡◌, ◌+◌, drop}
use Rattle.std.specs.List.{sum_by}
use Rattle.pad_patch.specs.Piece.{length_after, pieces_from, size_of_piece}
use Rattle.pad_patch.proofs.Laid.{IsLaid}
use Rattle.pad_patch.proofs.patch.Patch.length_after.Given as goal

abbrev pub invariant-loop-op : goal.invariant-loop-op
invariant-loop-op l =
    let left = drop l.op-index l.op-items in
    record {
      counted : l.length + sum_by size_of_piece (pieces_from l.place l.size left) ≡ length_after l.self l.size;
      laid_out : IsLaid l.place l.size left;
    }
