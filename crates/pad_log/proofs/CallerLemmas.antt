-- What is said of a text that was written follows where less is said of it; a part of a text behind another.
use Rattle.std.proofs.Common.{ℕ, List, Option}
use Rattle.pad_output.specs.Output.{AppendsSome}
pub use Rattle.pad_log.proofs.Written.{part_behind, whole_front}
use Rattle.pad_log.specs.Log.{IsLogText, IsLogPart}

pub text_weaker : (told : Type 0) (P Q : List (List ℕ) → Type 0) (old new : Option (List ℕ)) → (told → (list : List (List ℕ)) → P list → Q list)
    → AppendsSome (IsLogText told P) old new → AppendsSome (IsLogText told Q) old new
text_weaker told P Q old new follows text = (text.0, (text.1.0, text.1.1, (λ is. follows is text.1.0 (text.1.2 is)), text.1.3), text.2)

pub part_weaker : (told : Type 0) (P Q : List ℕ → Type 0) (old new : Option (List ℕ)) → (told → (part : List ℕ) → P part → Q part)
    → AppendsSome (IsLogPart told P) old new → AppendsSome (IsLogPart told Q) old new
part_weaker told P Q old new follows part = (part.0, (part.1.0, λ is. follows is part.0 (part.1.1 is)), part.2)
