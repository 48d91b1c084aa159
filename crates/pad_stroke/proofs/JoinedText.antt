-- Joined operations do to a text what the operations do.
use Rattle.std.proofs.Common.{◌≡◌, ℕ, ◌-◌, List, [], ◌∷◌, ◌++◌, length, take, drop, refl, sym, ◌∙◌, ap, append_assoc, arith}
use Rattle.std.specs.List.{flat_map}
use Rattle.pad_patch.specs.declared.operation.Operation.{Operation}
use Rattle.pad_patch.specs.Piece.{end_of, pieces_from, text_after}
use Rattle.pad_patch.proofs.CallerLemmas.{units_of_piece, text_after-copy}
use Rattle.pad_stroke.specs.Through.{together, in_front, joined}
use Rattle.pad_stroke.specs.Laws.{JoiningChangesNothing}
use Rattle.pad_stroke.proofs.Joints.{IsFront, touching, apart, front_cases}

-- the text after operations, from a place on
abbrev text_from : List ℕ → ℕ → List Operation → List ℕ
text_from text place operations = flat_map (units_of_piece text) (pieces_from place (length text) operations)

text_together : (text : List ℕ) (place : ℕ) (operation next : Operation) (later : List Operation) → end_of operation ≡ next.offset
    → text_from text place (together operation next ∷ later) ≡ text_from text place (operation ∷ next ∷ later)
text_together text place operation next later same =
    let kept = take (operation.offset - place) (drop place text) in
    let between = drop (end_of operation) text in
    let ends : end_of (together operation next) ≡ end_of next = omega arith in
    let none : 0 ≡ next.offset - end_of operation = omega arith in
    let rest = text_from text (end_of next) later in
    ap (λ n. kept ++ ((operation.insert ++ next.insert) ++ text_from text n later)) ends
    ∙ ap (λ us. kept ++ us) (append_assoc operation.insert next.insert rest)
    ∙ ap (λ n. kept ++ (operation.insert ++ (take n between ++ (next.insert ++ rest)))) none

text_by : (text : List ℕ) (place : ℕ) (operation next : Operation) (later front : List Operation) → IsFront operation next later front
    → text_from text place front ≡ text_from text place (operation ∷ next ∷ later)
text_by text place operation next later front (touching same is) = ap (text_from text place) is ∙ text_together text place operation next later same
text_by text place operation next later front (apart other is) = ap (text_from text place) is

text_in_front : (text : List ℕ) (place : ℕ) (operation : Operation) (later : List Operation)
    → text_from text place (in_front operation later) ≡ text_from text place (operation ∷ later)
text_in_front text place operation [] = refl
text_in_front text place operation (next ∷ later) =
    text_by text place operation next later (in_front operation (next ∷ later)) (front_cases operation next later)

text_joined : (text : List ℕ) (place : ℕ) (operations : List Operation) → text_from text place (joined operations) ≡ text_from text place operations
text_joined text place [] = refl
text_joined text place (operation ∷ operations) =
    text_in_front text place operation (joined operations)
    ∙ ap (λ us. take (operation.offset - place) (drop place text) ++ (operation.insert ++ us)) (text_joined text (end_of operation) operations)

pub joining_changes_nothing : JoiningChangesNothing
joining_changes_nothing patch text =
    text_after-copy (record patch { ops = joined patch.ops }) text ∙ text_joined text 0 patch.ops ∙ sym (text_after-copy patch text)
