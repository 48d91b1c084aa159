-- the room left and the units so far make up the longest text, and the operations left stand in order behind the place
use Rattle.std.proofs.Common.{◌≡◌, ◌+◌, ◌≤◌, drop}
use Rattle.std.specs.List.{sum_by}
use Rattle.pad_patch.specs.Misfit.{longest_text}
use Rattle.pad_patch.specs.Piece.{length_after, pieces_from, size_of_piece}
use Rattle.pad_patch.proofs.Laid.{IsLaid}
use Rattle.pad_patch.proofs.patch.Patch.is_too_long.Given as goal

abbrev pub invariant-loop-op : goal.invariant-loop-op
invariant-loop-op l =
    let left = drop l.op-index l.op-items in
    record {
      counted : longest_text + sum_by size_of_piece (pieces_from l.place l.size left) ≡ l.room + length_after l.self l.size;
      within : l.room ≤ longest_text;
      laid_out : IsLaid l.place l.size left;
    }
