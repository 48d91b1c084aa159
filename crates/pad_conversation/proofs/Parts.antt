-- Parts from the front of what is written.
use Rattle.std.proofs.Common.{◌≡◌, ◌∙◌, ℕ, List, [], ◌∷◌, ◌++◌, length, take, drop, Option, refl, sym, ap, append_assoc}
use Rattle.std.proofs.lemmas.List.{append-nil}
use Rattle.std.proofs.Math.Seq.{take-append_seam}
use Rattle.std.proofs.KnownBytes.{Appends-nil, Appends-trans, starts_with_rest}
use Rattle.std.specs.Io.{StartsWith}
use Rattle.std.specs.Io.KnownBytes.{Appends}
use Rattle.pad_output.specs.Output.{AppendsPart}

-- the front of a text
front_of : (whole front rest : List ℕ) → whole ≡ front ++ rest → StartsWith whole front
front_of whole front rest parts = ap (take (length front)) parts ∙ take-append_seam front rest

-- nothing was written of a text
pub nothing_of : (written : Option (List ℕ)) (text : List ℕ) → AppendsPart written written text
nothing_of written text = ([], refl, Appends-nil written)

-- all of a text was written
pub all_of : (old new : Option (List ℕ)) (text : List ℕ) → Appends old new text → AppendsPart old new text
all_of old new text whole = (text, front_of text text [] (sym (append-nil text)), whole)

-- a part of a text behind a text that was written whole
pub part_behind : (old mid new : Option (List ℕ)) (front text : List ℕ) → Appends old mid front → AppendsPart mid new text → AppendsPart old new (front ++ text)
part_behind old mid new front text first written =
    let behind : List ℕ = drop (length written.0) text in
    let inner : text ≡ written.0 ++ behind = starts_with_rest text written.0 written.1 in
    (front ++ written.0, front_of (front ++ text) (front ++ written.0) behind (ap (λ (t : List ℕ). front ++ t) inner ∙ sym (append_assoc front written.0 behind)), Appends-trans old mid new front written.0 first written.2)
