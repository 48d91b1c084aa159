use Rattle.std.proofs.Common.{◌≡◌, ◌+◌, ◌*◌, ◌≤◌, ◌++◌, List, ℕ, take}
use Rattle.log_format.specs.declared.frame.TheConstants.{LONGEST_PAYLOAD}
use Rattle.keeper_entry.specs.Index.{IsIndex}
use Rattle.keeper_channel.proofs.grouping.add_entries.Given as goal

abbrev pub invariant-loop-place : goal.invariant-loop-place
invariant-loop-place l = record {
  count : l.index.count ≡ l.fn.index.count + l.place;
  small : l.index.bytes ≤ l.fn.index.bytes + l.place * LONGEST_PAYLOAD;
  added : (before : List (List ℕ)) → IsIndex l.fn.index before → IsIndex l.index (before ++ take l.place l.payloads);
}
