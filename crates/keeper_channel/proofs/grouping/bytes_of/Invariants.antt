use Rattle.std.proofs.Common.{◌≡◌, ◌*◌, ◌≤◌, take}
use Rattle.log_format.specs.declared.frame.TheConstants.{LONGEST_PAYLOAD}
use Rattle.log_format.specs.Frames.{size_of}
use Rattle.keeper_channel.proofs.grouping.bytes_of.Given as goal

abbrev pub invariant-loop-place : goal.invariant-loop-place
invariant-loop-place l = record {
  bytes : l.bytes ≡ size_of (take l.place l.payloads);
  small : l.bytes ≤ l.place * LONGEST_PAYLOAD;
}
