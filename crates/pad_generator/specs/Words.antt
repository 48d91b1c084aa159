-- The words of a number: the key stream of ChaCha8 that is keyed with the number, word by word.
use Rattle.std.specs.Prelude.{ℕ, List, ◌++◌, replicate}
use Rattle.std.specs.Int.{w64, to_le_bytes}
use Rattle.rand_chacha.specs.ChaCha.{word_at, key_of}

-- the key of a number: its eight bytes, the least one first, and 24 zeros
abbrev pub key_bytes : ℕ → List ℕ
key_bytes number = to_le_bytes w64 number ++ replicate 24 0

-- the word at a place of the stream 0 of this key; ChaCha8 has four double rounds
unfoldable pub word : (number place : ℕ) → ℕ
word number place = word_at 4 (key_of (key_bytes number)) 0 place
