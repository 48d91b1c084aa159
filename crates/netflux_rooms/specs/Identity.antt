-- The identities that a key and a stream of ChaCha20 give.
use Rattle.std.specs.Prelude.{ℕ, ◌+◌, ◌*◌, List, ◌++◌}
use Rattle.std.specs.Int.{w32, w64, to_be_bytes}
use Rattle.hex.specs.Hex.{encode_lower}
use Rattle.netflux_rooms.specs.Rooms.{Identities}
use Rattle.rand_chacha.specs.ChaCha.{word_at, key_of}

-- two words of the stream from a place on, in eight digits each
abbrev pub two_words : (key : List ℕ) (stream place : ℕ) → List ℕ
two_words key stream place =
    to_be_bytes w32 (word_at 10 (key_of key) stream place) ++ to_be_bytes w32 (word_at 10 (key_of key) stream (place + 1))

-- the keeper's identity
unfoldable pub keeper_identity : (key : List ℕ) (stream : ℕ) → List ℕ
keeper_identity key stream = encode_lower (two_words key stream 0)

-- the identity of the connection of a serial number
unfoldable pub identity : (key : List ℕ) (stream serial : ℕ) → List ℕ
identity key stream serial = encode_lower (to_be_bytes w64 serial ++ two_words key stream (2 * serial))

-- the identities of a key and a stream
abbrev pub identities_of : (key : List ℕ) (stream : ℕ) → Identities
identities_of key stream = record { keeper = keeper_identity key stream; connection = λ serial. identity key stream serial }
