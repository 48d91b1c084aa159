-- Laws of groups of entries, payload by payload.
use Rattle.std.proofs.Common.{◌≡◌, ◌∙◌, ℕ, ◌+◌, ◌<◌, arith, List, [], ◌∷◌, ◌++◌, length, take, get_or, refl, sym, ap, subst}
use Rattle.std.proofs.lemmas.List.{take_more, append_assoc}
use Rattle.log_format.specs.Frames.{size_of}
use Rattle.keeper_entry.specs.Entry.{IsEntry}
use Rattle.keeper_channel.specs.Entries.{AreEntries}
use Rattle.keeper_channel.proofs.Rooms.{size-cons, size-append}

-- the payloads of a group up to a place, and one more
pub front_more : (all : List (List ℕ)) (place : ℕ) (payload : List ℕ) → place < length all → payload ≡ get_or all place payload → take (place + 1) all ≡ take place all ++ payload ∷ []
front_more all place payload within is = take_more all place payload within ∙ ap (λ (p : List ℕ). take place all ++ p ∷ []) (sym is)

pub size_more : (all : List (List ℕ)) (place : ℕ) (payload : List ℕ) → place < length all → payload ≡ get_or all place payload
    → size_of (take (place + 1) all) ≡ size_of (take place all) + length payload
size_more all place payload within is =
    let none : size_of [] ≡ 0 = refl in
    omega (arith, ap size_of (front_more all place payload within is), size-append (take place all) (payload ∷ []), size-cons payload [], none)

-- behind other payloads
pub behind_more : (before all : List (List ℕ)) (place : ℕ) (payload : List ℕ) → place < length all → payload ≡ get_or all place payload
    → (before ++ take place all) ++ payload ∷ [] ≡ before ++ take (place + 1) all
behind_more before all place payload within is =
    append_assoc before (take place all) (payload ∷ []) ∙ ap (λ (l : List (List ℕ)). before ++ l) (sym (front_more all place payload within is))

pub entry_in : (all : List (List ℕ)) (place : ℕ) (payload : List ℕ) → AreEntries all → place < length all → payload ≡ get_or all place payload → IsEntry payload
entry_in all place payload are within is = subst IsEntry (sym is) (are place payload within)
