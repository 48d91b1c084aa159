-- Where the units stood that an operation removes after others.
use Rattle.std.proofs.Common.{◌≡◌, ℕ, zero, suc, ◌+◌, ◌-◌, ◌<◌, ◌≤◌, List, [], ◌∷◌, ◌++◌, map, length, take, drop, replicate, get_or, refl, sym, ◌∙◌, ap, subst, arith, append_assoc}
use Rattle.std.specs.Prelude.{Option, Some, None, slice_get}
use Rattle.std.specs.List.{flat_map, range_with_len}
use Rattle.std.proofs.lemmas.List.{get_or-append-add, get_or_append_left, length-map, length-append, append-nil, take_at, drop_at, length-replicate, replicate-append-replicate}
use Rattle.std.proofs.lemmas.List.FromFn.{length-range_with_len, length-map-range_with_len, get_or-map-range_with_len}
use Rattle.pad_patch.specs.declared.operation.Operation.{Operation}
use Rattle.pad_patch.specs.Piece.{Piece, keep, new_units, end_of, pieces, pieces_from, patched_pieces, insertions, inserted}
use Rattle.pad_patch.specs.declared.patch.Patch.{Patch}
use Rattle.pad_patch.specs.Removed.{old_places}
use Rattle.pad_patch.proofs.CallerLemmas.{IsLaid, IsLaid-before, patched-next, part, map-take, map-drop, range-append, replicate-map}
use Rattle.pad_transform.specs.Table.{through}
use Rattle.pad_transform.proofs.Cases.{Moved, behind, within, before, across, last_step}

-- where the units of a piece stood before: each kept unit at its place, a new one nowhere
abbrev old_places_of_piece : Piece → List (Option ℕ)
old_places_of_piece (keep from count) = map Some (range_with_len from count)
old_places_of_piece (new_units units) = map (λ _. None) units

-- the old places of the rest of the copy, from a place of the text on
abbrev pub old_places_from : ℕ → ℕ → List Operation → List (Option ℕ)
old_places_from place size operations = flat_map old_places_of_piece (pieces_from place size operations)

-- the places from one up to another
abbrev places : ℕ → ℕ → List (Option ℕ)
places low high = map Some (range_with_len low (high - low))

range-split : (from count more all then : ℕ) → count + more ≡ all → from + count ≡ then
    → map Some (range_with_len from all) ≡ map Some (range_with_len from count) ++ map Some (range_with_len then more)
range-split from zero more all then sum at =
    let same : all ≡ more = omega arith in
    let there : from ≡ then = omega arith in
    cc
range-split from (suc count) more all then sum at =
    let same : all ≡ suc (count + more) = omega arith in
    rw same (ap (λ xs. Some from ∷ xs) (range-split (from + 1) count more (count + more) then refl (omega arith)))

places-append : (low middle high : ℕ) → low ≤ middle → middle ≤ high → places low high ≡ places low middle ++ places middle high
places-append low middle high first second = range-split low (middle - low) (high - middle) (high - low) middle (omega arith) (omega arith)

-- the old_places from a place on begin with the places up to any that no operation has touched yet
old_places_from-split : (low high size : ℕ) (operations : List Operation) → low ≤ high → IsLaid high size operations
    → old_places_from low size operations ≡ places low high ++ old_places_from high size operations
old_places_from-split low high size [] order laid_out =
    ap (λ xs. xs ++ []) (places-append low high size order laid_out) ∙ append_assoc (places low high) (places high size) []
old_places_from-split low high size (a ∷ operations) order laid_out =
    let rest : List (Option ℕ) = map (λ _. None) a.insert ++ old_places_from (end_of a) size operations in
    ap (λ xs. xs ++ rest) (places-append low high a.offset order laid_out.0) ∙ append_assoc (places low high) (places high a.offset) rest

length-places : (low high : ℕ) → length (places low high) ≡ high - low
length-places low high = length-map-range_with_len Some low (high - low)

-- the old_places, parted at the ends of a range that no operation touches
parted : (b : Operation) (later : List Operation) (size : ℕ) → IsLaid (end_of b) size later
    → old_places_from 0 size later ≡ places 0 b.offset ++ (places b.offset (end_of b) ++ old_places_from (end_of b) size later)
parted b later size laid_out =
    let order : b.offset ≤ end_of b = omega arith in
    old_places_from-split 0 b.offset size later (omega arith) (IsLaid-before b.offset (end_of b) size later order laid_out)
    ∙ ap (λ xs. places 0 b.offset ++ xs) (old_places_from-split b.offset (end_of b) size later order laid_out)

get_before : (xs ys zs : List (Option ℕ)) (i : ℕ) → i < length xs → get_or (xs ++ ys) i None ≡ get_or (xs ++ zs) i None
get_before xs ys zs i early = get_or_append_left xs ys None i early ∙ sym (get_or_append_left xs zs None i early)

get_behind : (xs ys ns zs : List (Option ℕ)) (rest i j : ℕ) → i ≡ length xs + (length ns + rest) → j ≡ length xs + (length ys + rest)
    → get_or (xs ++ (ns ++ zs)) i None ≡ get_or (xs ++ (ys ++ zs)) j None
get_behind xs ys ns zs rest i j is_i is_j =
    ap (λ n. get_or (xs ++ (ns ++ zs)) n None) is_i
    ∙ get_or-append-add xs (ns ++ zs) (length ns + rest) None ∙ get_or-append-add ns zs rest None
    ∙ sym (get_or-append-add ys zs rest None) ∙ sym (get_or-append-add xs (ys ++ zs) (length ys + rest) None)
    ∙ ap (λ n. get_or (xs ++ (ys ++ zs)) n None) (sym is_j)

-- one operation more in front of others
module _ (b : Operation) (later : List Operation) (size : ℕ) (laid_out : IsLaid (end_of b) size later) where
  -- the old place of a unit before it stays
  old_place_before : (place : ℕ) → place < b.offset → get_or (old_places_from 0 size (b ∷ later)) place None ≡ get_or (old_places_from 0 size later) place None
  old_place_before place early =
      let rest : List (Option ℕ) = map (λ _. None) b.insert ++ old_places_from (end_of b) size later in
      get_before (places 0 b.offset) rest (places b.offset (end_of b) ++ old_places_from (end_of b) size later) place (omega (arith, length-places 0 b.offset))
      ∙ ap (λ xs. get_or xs place None) (sym (parted b later size laid_out))

  -- the old place of a unit behind it stands at another place
  old_place_behind : (place moved : ℕ) → end_of b ≤ place → moved + b.remove ≡ place + length b.insert
      → get_or (old_places_from 0 size (b ∷ later)) moved None ≡ get_or (old_places_from 0 size later) place None
  old_place_behind place moved late at =
      let news : List (Option ℕ) = map (λ _. None) b.insert in
      let size_new : length news ≡ length b.insert = length-map b.insert (λ _. None) in
      get_behind (places 0 b.offset) (places b.offset (end_of b)) news (old_places_from (end_of b) size later) (place - end_of b) moved place
      (omega (arith, length-places 0 b.offset, size_new)) (omega (arith, length-places 0 b.offset, length-places b.offset (end_of b)))
      ∙ ap (λ xs. get_or xs place None) (sym (parted b later size laid_out))

-- the unit at a place is a kept one that an operation removed
pub record IsKept (a : Operation) (olds : List (Option ℕ)) (place : ℕ) : Type 0 where
  pub old : ℕ
  pub stood : get_or olds place None ≡ Some old
  pub from : a.offset ≤ old
  pub below : old < end_of a

same_old_place : (a : Operation) (xs ys : List (Option ℕ)) (i j : ℕ) → get_or ys j None ≡ get_or xs i None → IsKept a xs i → IsKept a ys j
same_old_place a xs ys i j same kept = record { old = kept.old; stood = same ∙ kept.stood; from = kept.from; below = kept.below }

kept_step : (a m b c : Operation) (later : List Operation) (size : ℕ) → IsLaid (end_of b) size later → Moved m b c
    → ((place : ℕ) → m.offset ≤ place → place < end_of m → IsKept a (old_places_from 0 size later) place)
    → (place : ℕ) → c.offset ≤ place → place < end_of c → IsKept a (old_places_from 0 size (b ∷ later)) place
kept_step a m b c later size laid_out (behind late at same) kept place first last =
    let old = place + b.remove - length b.insert in
    same_old_place a _ _ old place (old_place_behind b later size laid_out old place (omega arith) (omega arith)) (kept old (omega arith) (omega arith))
kept_step a m b c later size laid_out (within after most at same) kept place first last =
    let old = place + b.remove - length b.insert in
    same_old_place a _ _ old place (old_place_behind b later size laid_out old place (omega arith) (omega arith)) (kept old (omega arith) (omega arith))
kept_step a m b c later size laid_out (before early apart at same) kept place first last =
    same_old_place a _ _ place place (old_place_before b later size laid_out place (omega arith)) (kept place (omega arith) (omega arith))
kept_step a m b c later size laid_out (across early meets at same) kept place first last =
    same_old_place a _ _ place place (old_place_before b later size laid_out place (omega arith)) (kept place (omega arith) (omega arith))

old_place_none : (size place : ℕ) → place < size → get_or (old_places_from 0 size []) place None ≡ Some place
old_place_none size place below =
    ap (λ xs. get_or xs place None) (append-nil (places 0 size)) ∙ get_or-map-range_with_len Some 0 (size - 0) place place None (omega arith) (omega arith)

-- each unit that an operation removes after others is one that it removed and that they kept
pub kept-through : (by : List Operation) (place size : ℕ) (a c : Operation) → IsLaid place size by → end_of a ≤ size → through by a ≡ Some c
    → (i : ℕ) → c.offset ≤ i → i < end_of c → IsKept a (old_places_from 0 size by) i
kept-through [] place size a c laid_out inside is i first last =
    let same : a ≡ c = cc in
    let from : a.offset ≤ i = subst (λ (x : Operation). x.offset ≤ i) (sym same) first in
    let below : i < end_of a = subst (λ (x : Operation). i < end_of x) (sym same) last in
    record { old = i; stood = old_place_none size i (omega arith); from = from; below = below }
kept-through (b ∷ later) place size a c laid_out inside is i first last =
    let step = last_step a b later c is in
    kept_step a step.earlier b c later size laid_out.2 step.line (kept-through later (end_of b) size a step.earlier laid_out.2 inside step.image) i first last

-- a part of the numbers below a size
part_range : (low high size : ℕ) → low ≤ high → high ≤ size → part low high (range_with_len 0 size) ≡ range_with_len low (high - low)
part_range low high size order most =
    let rest : size ≡ low + ((high - low) + (size - high)) = omega arith in
    let middle : low + (high - low) ≡ high = omega arith in
    let here : 0 + low ≡ low = omega arith in
    let later = range_with_len high (size - high) in
    ap (λ n. part low high (range_with_len 0 n)) rest
    ∙ ap (part low high) (sym (range-append 0 low ((high - low) + (size - high)))
    ∙ ap (λ n. range_with_len 0 low ++ range_with_len n ((high - low) + (size - high))) here
    ∙ ap (λ xs. range_with_len 0 low ++ xs) (sym (range-append low (high - low) (size - high)) ∙ ap (λ n. range_with_len low (high - low) ++ range_with_len n (size - high)) middle))
    ∙ ap (take (high - low)) (drop_at (range_with_len 0 low) (range_with_len low (high - low) ++ later) low (length-range_with_len 0 low))
    ∙ take_at (range_with_len low (high - low)) later (high - low) (length-range_with_len low (high - low))

part_places : (low high size : ℕ) → low ≤ high → high ≤ size → part low high (map Some (range_with_len 0 size)) ≡ places low high
part_places low high size order most =
    ap (take (high - low)) (sym (map-drop Some low (range_with_len 0 size))) ∙ sym (map-take Some (high - low) (drop low (range_with_len 0 size)))
    ∙ ap (map Some) (part_range low high size order most)

old_pieces : (place size : ℕ) (operations : List Operation) → IsLaid place size operations
    → patched_pieces (map Some (range_with_len 0 size)) (replicate (length (insertions operations)) None) (pieces_from place size operations) ≡ old_places_from place size operations
old_pieces place size [] laid_out = ap (λ xs. xs ++ []) (part_places place size size laid_out (omega arith))
old_pieces place size (operation ∷ operations) (starts, inside, rest) =
    let old : List (Option ℕ) = map Some (range_with_len 0 size) in
    let count = length operation.insert in
    let left = length (insertions operations) in
    let first : List (Option ℕ) = replicate count None in
    let second : List (Option ℕ) = replicate left None in
    let later = pieces_from place size (operation ∷ operations) in
    ap (λ n. patched_pieces old (replicate n None) later) (length-append operation.insert (insertions operations))
    ∙ ap (λ xs. patched_pieces old xs later) (sym (replicate-append-replicate count left None))
    ∙ patched-next old first second place size operation operations (length-replicate count None)
    ∙ ap (λ xs. xs ++ (first ++ patched_pieces old second (pieces_from (end_of operation) size operations))) (part_places place operation.offset size starts (omega (arith, inside)))
    ∙ ap (λ xs. places place operation.offset ++ (xs ++ patched_pieces old second (pieces_from (end_of operation) size operations))) (sym (replicate-map None operation.insert))
    ∙ ap (λ xs. places place operation.offset ++ (map (λ _. None) operation.insert ++ xs)) (old_pieces (end_of operation) size operations rest)

-- the old places after a patch, piece by piece
pub old_places-pieces : (patch : Patch) (size : ℕ) → IsLaid 0 size patch.ops → old_places patch size ≡ old_places_from 0 size patch.ops
old_places-pieces patch size laid_out =
    ap (λ n. patched_pieces (map Some (range_with_len 0 size)) (replicate (length (inserted patch)) None) (pieces patch n)) (length-map-range_with_len {X = Option ℕ} Some 0 size)
    ∙ old_pieces 0 size patch.ops laid_out

-- what stands at an index, as an option
pub get_of : (xs : List (Option ℕ)) (place old : ℕ) → get_or xs place None ≡ Some old → slice_get xs place ≡ Some (Some old)
get_of [] place old is = cc
get_of (x ∷ xs) zero old is = ap Some is
get_of (x ∷ xs) (suc place) old is = get_of xs place old is
