-- What an index knows of a list of entries.
use Rattle.std.specs.Prelude.{◌≡◌, ℕ, List, length}
use Rattle.std.specs.declared.cmp.Ordering.{Ordering}
use Rattle.std.specs.Ordering.{nat_cmp}
use Rattle.std.specs.Cmp.Lexicographic.{slice_cmp}
use Rattle.std.specs.BTreeMap.{get}
use Rattle.log_format.specs.Frames.{size_of}
use Rattle.pad_text.specs.declared.name.Name.{Name}
use Rattle.keeper_entry.specs.declared.index.Index.{Index}
use Rattle.keeper_entry.specs.History.{first_from, checkpoints_from, last_in, default_start}

-- the order of keys by their bytes
abbrev pub key_cmp : Name → Name → Ordering
key_cmp key other = slice_cmp nat_cmp key.0 other.0

-- It has the first index of each key, the start of a default history, the last checkpoint, how many payloads there are, and
-- how many bytes they have together.
pub record IsIndex (index : Index) (payloads : List (List ℕ)) : Type 0 where
  pub first : (key : Name) → get key_cmp index.first key ≡ first_from key 0 payloads
  pub start : index.start ≡ default_start payloads
  pub last : index.last ≡ last_in (checkpoints_from 0 payloads)
  pub counted : index.count ≡ length payloads
  pub sized : index.bytes ≡ size_of payloads
