use Rattle.std.proofs.Common.{◌≡◌, ℕ, ◌<◌, List, Some, slice_get}
use Rattle.pad_message.specs.declared.message.Message.{Message}
use Rattle.pad_model.specs.Path.{NamesDiffer}
use Rattle.pad_plain.specs.declared.candidate.Candidate.{Candidate}
use Rattle.pad_plain.specs.Inside.Through.{IsRoot, NoPathThrough}
use Rattle.pad_plain.proofs.best.best_through.Given as goal

abbrev pub invariant-loop-candidate : goal.invariant-loop-candidate
invariant-loop-candidate l =
    NamesDiffer l.received → (through : List Message) → IsRoot l.base l.received l.root through
    → (k : ℕ) (candidate : Candidate) → k < l.candidate-index → slice_get l.candidate-items k ≡ Some candidate → NoPathThrough l.base l.received through candidate.place
