-- the moves that are left, on whatever grounds
use Rattle.std.proofs.Common.{drop, length}
use Rattle.client_work.specs.Carrying.{Ground, AreReady}
use Rattle.client_work.proofs.Loops.{StillOn}
use Rattle.client_work.proofs.carrying.carry_on.Given as goal

abbrev pub invariant-loop-place : goal.invariant-loop-place
invariant-loop-place l =
    (grounds : Ground) → AreReady grounds l.sent.entries l.moves (length grounds.text) l.end l.fn.work
    → StillOn grounds l.sent.entries l.moves (drop l.place l.moves) l.end l.work l.fn.work
