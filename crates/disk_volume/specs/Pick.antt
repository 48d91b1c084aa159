-- What a stop leaves of a file, by a pick.
use Rattle.std.specs.Prelude.{ℕ, Bool, ◌&&◌, nat_le, nat_lt, List, length, map, slice_index, if◌then◌else◌}
use Rattle.std.specs.List.{list_any, range_with_len}
use Rattle.disk_volume.specs.Disk.{File}
use Rattle.disk_volume.specs.declared.pick.Pick.{Pick}
use Rattle.disk_volume.specs.declared.pick.Pick.TheVariants.{Old, New, Torn}

-- an offset in one of these ranges
abbrev pub is_within : List (ℕ × ℕ) → ℕ → Bool
is_within ranges place = list_any (λ range. nat_le range.0 place && nat_lt place range.1) ranges

-- these bytes with one byte at each offset in these ranges
abbrev pub torn : List (ℕ × ℕ) → ℕ → List ℕ → List ℕ
torn ranges byte bytes = map (λ place. if is_within ranges place then byte else slice_index bytes place) (range_with_len 0 (length bytes))

-- what a stop leaves: the bytes at the last sync, or the bytes as they read, or these with the written ranges torn
abbrev pub left : Pick → File → List ℕ
left Old f = f.stood
left New f = f.now
left (Torn byte) f = torn f.written byte f.now
