-- What a stop makes of calls.
use Rattle.std.specs.Prelude.{ℕ, ◌+◌, Bool, true, false, ◌&&◌, List, [], ◌∷◌, length, bytes_eq}
use Rattle.disk_volume.specs.Pick.{torn}
use Rattle.disk_volume.specs.Step.{Step, writes, cuts, syncs}

-- bytes with one byte all over the range that was written
abbrev pub filled : Step → ℕ → List ℕ → List ℕ
filled (writes at piece) byte bytes = torn ((at, at + length piece) ∷ []) byte bytes
filled (cuts to) byte bytes = bytes
filled syncs byte bytes = bytes

abbrev pub is_sync : Step → Bool
is_sync (writes at piece) = false
is_sync (cuts to) = false
is_sync syncs = true

-- a sync of the file of this name
abbrev pub is_sync_of : List ℕ → List ℕ × Step → Bool
is_sync_of name call = is_sync call.1 && bytes_eq call.0 name
