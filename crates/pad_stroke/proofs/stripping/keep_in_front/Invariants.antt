-- the marks that stayed so far, and those that are left
use Rattle.std.proofs.Common.{◌≡◌, ◌≤◌, ◌++◌, take, drop}
use Rattle.std.specs.Prelude.{filter}
use Rattle.pad_stroke.specs.Strip.{stays}
use Rattle.pad_stroke.proofs.stripping.keep_in_front.Given as goal

abbrev pub invariant-loop-index : goal.invariant-loop-index
invariant-loop-index l = record {
  whole : take l.kept l.marks ++ filter (stays l.gone) (drop l.index l.marks) ≡ filter (stays l.gone) l.initial.marks;
  behind : l.kept ≤ l.index;
}
