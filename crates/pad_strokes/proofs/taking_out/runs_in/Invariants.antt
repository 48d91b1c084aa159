-- the edits so far, and those of what is left of the row
use Rattle.std.proofs.Common.{◌≡◌, ◌≤◌, ◌++◌, drop}
use Rattle.pad_strokes.specs.Runs.{runs_from, runs}
use Rattle.pad_strokes.proofs.taking_out.runs_in.Given as goal

abbrev pub invariant-loop-place : goal.invariant-loop-place
invariant-loop-place l = record {
  whole : l.edits.items ++ runs_from l.stroke l.place l.run (drop l.place l.row) ≡ runs l.stroke l.row;
  run : l.run ≤ l.place;
}
