-- The origins of a copy, piece by piece.
use Rattle.std.proofs.Common.{◌≡◌, ℕ, ◌+◌, ◌-◌, None, Some, List, [], ◌∷◌, ◌++◌, length, map, take, drop, refl, sym, ◌∙◌, ap}
use Rattle.std.specs.Prelude.{Option}
use Rattle.std.specs.List.{range_with_len}
use Rattle.std.proofs.lemmas.List.{map-append, length-append}
use Rattle.std.proofs.lemmas.List.FromFn.{length-map-range_with_len}
use Rattle.pad_patch.specs.declared.operation.Operation.{Operation}
use Rattle.pad_patch.specs.declared.patch.Patch.{Patch}
use Rattle.pad_patch.specs.Piece.{Piece, keep, new_units, end_of, pieces, pieces_from, patched_pieces, insertions}
use Rattle.pad_patch.proofs.CallerLemmas.{patched-next, range-append}
use Rattle.pad_merge.specs.declared.origin.Origin.{Origin}
use Rattle.pad_merge.specs.Origin.{numbered, origins_after}

-- the origins of the units of a copy by pieces, where n new units stand before them: new units are numbered on from n
abbrev pub origins_of_pieces : (ℕ → Origin) → List (Option Origin) → ℕ → List Piece → List (Option Origin)
origins_of_pieces origin before place [] = []
origins_of_pieces origin before place (keep from count ∷ parts) = take count (drop from before) ++ origins_of_pieces origin before place parts
origins_of_pieces origin before place (new_units units ∷ parts) =
    numbered origin place (length units) ++ origins_of_pieces origin before (place + length units) parts

numbered-append : (origin : ℕ → Origin) (from first second : ℕ) → numbered origin from (first + second) ≡ numbered origin from first ++ numbered origin (from + first) second
numbered-append origin from first second =
    ap (map (λ place. Some (origin place))) (sym (range-append from first second))
    ∙ map-append (λ place. Some (origin place)) (range_with_len from first) (range_with_len (from + first) second)

numbered_pieces : (origin : ℕ → Origin) (before : List (Option Origin)) (number place size : ℕ) (operations : List Operation)
    → patched_pieces before (numbered origin number (length (insertions operations))) (pieces_from place size operations) ≡ origins_of_pieces origin before number (pieces_from place size operations)
numbered_pieces origin before number place size [] = refl
numbered_pieces origin before number place size (operation ∷ operations) =
    let kept = take (operation.offset - place) (drop place before) in
    let count = length operation.insert in
    let left = length (insertions operations) in
    let new = numbered origin number count in
    ap (λ n. patched_pieces before (numbered origin number n) (pieces_from place size (operation ∷ operations))) (length-append operation.insert (insertions operations))
    ∙ ap (λ xs. patched_pieces before xs (pieces_from place size (operation ∷ operations))) (numbered-append origin number count left)
    ∙ patched-next before new (numbered origin (number + count) left) place size operation operations (length-map-range_with_len (λ at. Some (origin at)) number count)
    ∙ ap (λ xs. kept ++ (new ++ xs)) (numbered_pieces origin before (number + count) (end_of operation) size operations)

-- the origins after a patch, piece by piece
pub origins-pieces : (origin : ℕ → Origin) (patch : Patch) (before : List (Option Origin)) → origins_after origin patch before ≡ origins_of_pieces origin before 0 (pieces patch (length before))
origins-pieces origin patch before = numbered_pieces origin before 0 0 (length before) patch.ops
