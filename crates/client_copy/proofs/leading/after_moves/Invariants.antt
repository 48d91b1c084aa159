-- the moves that are left fit the text as all of them fit the first one
use Rattle.std.proofs.Common.{◌≤◌, ◌+◌, drop}
use Rattle.client_copy.proofs.LeftMoves.{LeftFrom}
use Rattle.client_copy.proofs.leading.after_moves.Given as goal

abbrev pub invariant-loop-place : goal.invariant-loop-place
invariant-loop-place g l =
    record {
      left : LeftFrom l.moves (drop l.place l.moves) (g.S.UnitStore.units l.text) (g.S.UnitStore.units l.initial.text);
      steps : l.steps ≤ l.initial.steps + l.place;
    }
