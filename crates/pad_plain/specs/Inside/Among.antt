-- What is said of the last message of a candidate.
use Rattle.std.specs.Prelude.{◌≡◌, List, Bool, Some, MatchBool, slice_get}
use Rattle.pad_message.specs.declared.message.Message.{Message}
use Rattle.pad_plain.specs.declared.candidate.Candidate.{Candidate}

-- the answer is whether P holds of the candidate's last message
abbrev pub IsSaidOf : List Message → (Message → Type 0) → Candidate → Bool → Type 0
IsSaidOf received P candidate answer = (message : Message) → slice_get received candidate.place ≡ Some message → MatchBool answer (P message) (¬ (P message))
