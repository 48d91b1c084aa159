-- Nothing is in a list twice: by places.
use Rattle.std.proofs.Common.{zero, suc, ◌<◌, List, [], ◌∷◌, length, sym, ◌∙◌, arith}
use Rattle.std.specs.Prelude.{◌≢◌}
use Rattle.std.specs.List.{AllPairs}
use Rattle.std.proofs.lemmas.List.{get_or_default}
use Rattle.pad_list.specs.Number.{NoRepeat}

-- what is at two places differs
abbrev pub DifferAt : {A : Type 0} → List A → Type 0
DifferAt marks = AllPairs (λ earlier later. earlier ≢ later) marks

pub by_places : {A : Type 0} (xs : List A) → NoRepeat xs → DifferAt xs
by_places [] once i j default order below same = omega (arith, below)
by_places (x ∷ xs) once i zero default order below same = omega (arith, order)
by_places (x ∷ xs) once zero (suc j) default order below same =
    let within : j < length xs = omega (arith, below) in
    once.0 (j, within, get_or_default xs j x default within ∙ sym same)
by_places (x ∷ xs) once (suc i) (suc j) default order below same = by_places xs once.1 i j default (omega (arith, order)) (omega (arith, below)) same

pub from_places : {A : Type 0} (xs : List A) → DifferAt xs → NoRepeat xs
from_places [] different = tt
from_places (x ∷ xs) different = (
  λ twice. different 0 (suc twice.0) x (omega arith) (omega (arith, twice.1)) (sym twice.2),
  from_places xs (λ i j default order below same. different (suc i) (suc j) default (omega (arith, order)) (omega (arith, below)) same),
)
