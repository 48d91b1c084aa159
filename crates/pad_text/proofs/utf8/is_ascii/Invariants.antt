use Rattle.std.proofs.Common.{ℕ, ◌<◌, ◌≤◌, slice_index}
use Rattle.pad_text.proofs.utf8.is_ascii.Given as goal

-- no unit so far is greater
abbrev pub invariant-loop-unit : goal.invariant-loop-unit
invariant-loop-unit l = (k : ℕ) → k < l.unit-index → slice_index l.units k ≤ l.most
