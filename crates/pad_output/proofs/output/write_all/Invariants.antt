-- So far the front of the text is written, up to a place.
use Rattle.std.proofs.Common.{◌≡◌, ◌-◌, ◌≤◌, length, take}
use Rattle.std.specs.Io.KnownBytes.{Appends}
use Rattle.pad_output.proofs.output.write_all.Given as goal

abbrev pub invariant-loop-done : goal.invariant-loop-done
invariant-loop-done g l = record {
  within : l.done ≤ length l.text;
  grown : Appends (g.O.Sink.written l.initial.output) (g.O.Sink.written l.output) (take l.done l.text);
  kept : g.O.Sink.faults l.output ≡ g.O.Sink.faults l.initial.output;
}

abbrev pub decreases-loop-done : goal.decreases-loop-done
decreases-loop-done g l = length l.text - l.done
