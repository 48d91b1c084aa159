use Rattle.std.proofs.Common.{◌≡◌, ◌≢◌, ℕ, ◌<◌, Some, slice_get}
use Rattle.pad_plain.specs.declared.candidate.Candidate.{Candidate}
use Rattle.pad_plain.proofs.candidate.is_among.Given as goal

abbrev pub invariant-loop-candidate : goal.invariant-loop-candidate
invariant-loop-candidate l = (k : ℕ) (other : Candidate) → k < l.candidate-index → slice_get l.candidates k ≡ Some other → other.name ≢ l.name
