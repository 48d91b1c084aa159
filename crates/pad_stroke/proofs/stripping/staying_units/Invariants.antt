-- the units that stayed so far, and those that are left
use Rattle.std.proofs.Common.{◌≡◌, ◌≤◌, ◌++◌, take, drop, length}
use Rattle.pad_stroke.specs.Strip.{staying}
use Rattle.pad_stroke.proofs.stripping.staying_units.Given as goal

abbrev pub invariant-loop-index : goal.invariant-loop-index
invariant-loop-index l = record {
  whole : take l.kept l.units.items ++ staying l.gone (drop l.index l.units.items) (drop l.index l.marks) ≡ staying l.gone l.fn.units.items l.marks;
  size : length l.units.items ≡ length l.fn.units.items;
  behind : l.kept ≤ l.index;
}
