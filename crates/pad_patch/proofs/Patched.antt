-- Lists with one element for each unit of a text, and how a patch copies them.
use Rattle.std.proofs.Common.{◌≡◌, ℕ, zero, suc, ◌+◌, ◌-◌, ◌≤◌, List, [], ◌∷◌, ◌++◌, length, map, take, drop, refl, sym, ◌∙◌, ap, arith}
use Rattle.std.specs.List.{flat_map}
use Rattle.std.proofs.lemmas.List.{map-append, length-map, take_at, drop_at, length-drop, length-take-le, drop-drop, take-append-drop}
use Rattle.pad_patch.specs.declared.operation.Operation.{Operation}
use Rattle.pad_patch.specs.declared.patch.Patch.{Patch}
use Rattle.pad_patch.specs.Piece.{Piece, keep, new_units, end_of, pieces, pieces_from, patched_pieces, patched, insertions}

pub map-take : {A B : Type 0} (f : A → B) (n : ℕ) (xs : List A) → map f (take n xs) ≡ take n (map f xs)
map-take f zero xs = refl
map-take f (suc n) [] = refl
map-take f (suc n) (x ∷ xs) = ap (λ ys. f x ∷ ys) (map-take f n xs)

pub map-drop : {A B : Type 0} (f : A → B) (n : ℕ) (xs : List A) → map f (drop n xs) ≡ drop n (map f xs)
map-drop f zero xs = refl
map-drop f (suc n) [] = refl
map-drop f (suc n) (x ∷ xs) = map-drop f n xs

-- the copy of what the elements are mapped to is what the elements of the copy are mapped to
pub map-patched_pieces : {A B : Type 0} (f : A → B) (old new : List A) (parts : List Piece)
    → map f (patched_pieces old new parts) ≡ patched_pieces (map f old) (map f new) parts
map-patched_pieces f old new [] = refl
map-patched_pieces f old new (keep from count ∷ parts) =
    map-append f (take count (drop from old)) (patched_pieces old new parts)
    ∙ ap (λ xs. xs ++ map f (patched_pieces old new parts)) (map-take f count (drop from old) ∙ ap (take count) (map-drop f from old))
    ∙ ap (λ xs. take count (drop from (map f old)) ++ xs) (map-patched_pieces f old new parts)
map-patched_pieces f old new (new_units units ∷ parts) =
    let rest = drop (length units) new in
    map-append f (take (length units) new) (patched_pieces old rest parts)
    ∙ ap (λ xs. xs ++ map f (patched_pieces old rest parts)) (map-take f (length units) new)
    ∙ ap (λ xs. take (length units) (map f new) ++ xs) (map-patched_pieces f old rest parts)
    ∙ ap (λ xs. take (length units) (map f new) ++ patched_pieces (map f old) xs parts) (map-drop f (length units) new)

pub map-patched : {A B : Type 0} (f : A → B) (patch : Patch) (new old : List A) → map f (patched patch new old) ≡ patched patch (map f new) (map f old)
map-patched f patch new old =
    map-patched_pieces f old new (pieces patch (length old)) ∙ ap (λ n. patched_pieces (map f old) (map f new) (pieces patch n)) (sym (length-map old f))

-- one operation in front of others, whose new units have the first of the new elements
pub patched-next : {A : Type 0} (old xs ys : List A) (place size : ℕ) (operation : Operation) (operations : List Operation) → length xs ≡ length operation.insert
    → patched_pieces old (xs ++ ys) (pieces_from place size (operation ∷ operations))
    ≡ take (operation.offset - place) (drop place old) ++ (xs ++ patched_pieces old ys (pieces_from (end_of operation) size operations))
patched-next old xs ys place size operation operations is =
    let kept = take (operation.offset - place) (drop place old) in
    let later = pieces_from (end_of operation) size operations in
    ap (λ zs. kept ++ (zs ++ patched_pieces old (drop (length operation.insert) (xs ++ ys)) later)) (take_at xs ys (length operation.insert) is)
    ∙ ap (λ zs. kept ++ (xs ++ patched_pieces old zs later)) (drop_at xs ys (length operation.insert) is)

-- the units of a piece of the copy of a text
abbrev pub units_of_piece : List ℕ → Piece → List ℕ
units_of_piece text (keep from count) = take count (drop from text)
units_of_piece text (new_units units) = units

-- a text copied by pieces, the inserted units read off them
pub patched-units : (text : List ℕ) (place size : ℕ) (operations : List Operation)
    → patched_pieces text (insertions operations) (pieces_from place size operations) ≡ flat_map (units_of_piece text) (pieces_from place size operations)
patched-units text place size [] = refl
patched-units text place size (operation ∷ operations) =
    let kept = take (operation.offset - place) (drop place text) in
    patched-next text operation.insert (insertions operations) place size operation operations refl
    ∙ ap (λ xs. kept ++ (operation.insert ++ xs)) (patched-units text (end_of operation) size operations)

-- the same with other elements: each new unit has what is read off it
abbrev pub piece_read : {A : Type 0} → (ℕ → A) → List A → Piece → List A
piece_read read old (keep from count) = take count (drop from old)
piece_read read old (new_units units) = map read units

pub patched-read : {A : Type 0} (read : ℕ → A) (old : List A) (place size : ℕ) (operations : List Operation)
    → patched_pieces old (map read (insertions operations)) (pieces_from place size operations) ≡ flat_map (piece_read read old) (pieces_from place size operations)
patched-read read old place size [] = refl
patched-read read old place size (operation ∷ operations) =
    let kept = take (operation.offset - place) (drop place old) in
    let all = pieces_from place size (operation ∷ operations) in
    ap (λ xs. patched_pieces old xs all) (map-append read operation.insert (insertions operations))
    ∙ patched-next old (map read operation.insert) (map read (insertions operations)) place size operation operations (length-map operation.insert read)
    ∙ ap (λ xs. kept ++ (map read operation.insert ++ xs)) (patched-read read old (end_of operation) size operations)

-- the elements from one place to another
abbrev pub part : {A : Type 0} → ℕ → ℕ → List A → List A
part low high xs = take (high - low) (drop low xs)

pub length-part : {A : Type 0} (low high : ℕ) (xs : List A) → high ≤ length xs → length (part low high xs) ≡ high - low
length-part low high xs within = length-take-le (high - low) (drop low xs) (omega (arith, within, length-drop low xs))

-- what stands after a place is a range and what stands after it
pub range-drop : {A : Type 0} (low high : ℕ) (xs : List A) → low ≤ high → part low high xs ++ drop high xs ≡ drop low xs
range-drop low high xs order =
    let there : low + (high - low) ≡ high = omega arith in
    ap (λ ys. part low high xs ++ ys) (ap (λ n. drop n xs) (sym there) ∙ sym (drop-drop (high - low) low xs))
    ∙ take-append-drop (high - low) (drop low xs)
