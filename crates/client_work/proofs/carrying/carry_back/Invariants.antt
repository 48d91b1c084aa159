-- the moves that are left, on whatever grounds
use Rattle.std.proofs.Common.{drop}
use Rattle.client_work.specs.Carrying.{Ground, AreReady}
use Rattle.client_work.proofs.Loops.{StillBack}
use Rattle.client_work.proofs.carrying.carry_back.Given as goal

abbrev pub invariant-loop-place : goal.invariant-loop-place
invariant-loop-place l =
    (grounds : Ground) → AreReady grounds l.sent.entries l.moves l.fn.size l.end l.fn.work
    → StillBack grounds l.sent.entries l.moves (drop l.place l.moves) l.length l.end l.work l.fn.work
