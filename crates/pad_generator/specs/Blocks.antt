-- Lists in blocks.
use Rattle.std.specs.Prelude.{ℕ, suc, zero, List, [], ◌∷◌, length, take, drop, reverse}
use Rattle.std.specs.Int.{div_ceil}
use Rattle.std.specs.List.{flat_map}

-- the first so many blocks of a list, of 16 elements each; the last block of a list may be shorter than the others
abbrev pub blocks : {A : Type 0} → ℕ → List A → List (List A)
blocks zero xs = []
blocks (suc count) xs = take 16 xs ∷ blocks count (drop 16 xs)

-- how many blocks so many elements have
abbrev pub block_count : ℕ → ℕ
block_count size = div_ceil size 16

-- a list with each of its blocks in reverse order
abbrev pub blocks_reversed : {A : Type 0} → List A → List A
blocks_reversed xs = flat_map reverse (blocks (block_count (length xs)) xs)
