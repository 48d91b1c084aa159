-- So far the bytes from the front of the source are taken.
use Rattle.std.proofs.Common.{◌≡◌, ◌-◌, ◌≤◌, vec_len}
use Rattle.std.specs.Io.KnownBytes.{Consumes}
use Rattle.pad_top.specs.Input.{most_bytes}
use Rattle.pad_top.proofs.input.read_all.Given as goal

abbrev pub invariant-loop-count : goal.invariant-loop-count
invariant-loop-count g l = record {
  within : vec_len l.bytes ≤ most_bytes;
  taken : Consumes (g.I.Source.left l.initial.input) (g.I.Source.left l.input) l.bytes.items;
  same : g.I.Source.faults l.input ≡ g.I.Source.faults l.initial.input;
}

abbrev pub decreases-loop-count : goal.decreases-loop-count
decreases-loop-count g l = most_bytes - vec_len l.bytes
