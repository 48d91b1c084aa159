-- A walk over the entries of a file.
use Rattle.std.specs.Prelude.{◌≡◌, ℕ, ◌+◌, ◌-◌, ◌<◌, ◌≤◌, ◌⊎◌, false, List, ◌++◌, length, drop, slice_index}
use Rattle.log_format.specs.declared.form.TheConstants.{MOST_BYTES_TWO}
use Rattle.log_format.specs.declared.layout.TheConstants.{MAGIC_SIZE, ENTRY_HEAD}
use Rattle.log_format.specs.File.{is_entry, IsEntries}
use Rattle.gated_log.specs.declared.extent.Extent.{Extent}
use Rattle.gated_log.specs.declared.gate.Gate.{Gate}
use Rattle.gated_log.specs.declared.walk.Walk.{Walk}
use Rattle.gated_log.specs.declared.walk.Step.{Step}
use Rattle.gated_log.specs.declared.walk.Step.TheVariants.{On, Last}
use Rattle.gated_log.specs.Extents.{extents}

-- from one gate of a file to another there are the entries of these payloads
pub record Walked (bytes : List ℕ) (from to : ℕ) (payloads : List (List ℕ)) : Type 0 where
  pub front : List ℕ
  pub is : IsEntries front payloads
  pub reaches : to ≡ from + length front
  pub bytes_are : drop from bytes ≡ front ++ drop to bytes
  pub inside : to < length bytes

-- a walk behind the magic of a file, and within it
pub record IsInside (walk : Walk) : Type 0 where
  pub behind_magic : MAGIC_SIZE ≤ walk.before
  pub forward : walk.before ≤ walk.gate
  pub inside : walk.gate < walk.end
  pub small : walk.end ≤ MOST_BYTES_TWO

-- from one gate of a file to another there are entries, and they were added to this index
pub record IsOver (bytes : List ℕ) (from to : ℕ) (before after : List Extent) : Type 0 where
  pub payloads : List (List ℕ)
  pub walked : Walked bytes from to payloads
  pub indexed : after ≡ before ++ extents from payloads

-- the gate at a place is the last one of a file, or there are so many entries before it
pub record Ends (bytes : List ℕ) (most : ℕ) (index : List Extent) (gate : Gate) : Type 0 where
  pub byte_is : gate.byte ≡ slice_index bytes gate.place
  pub ends : length index < most → is_entry (drop gate.place bytes) ≡ false

-- What a step of a walk found: entries, and it went over them, or the gate at which it ends.
abbrev pub IsStep : (bytes : List ℕ) (walk : Walk) (most : ℕ) (before after : List Extent) → Step → Type 0
IsStep bytes walk most before after (On next) = (next.end ≡ walk.end) × IsOver bytes walk.gate next.gate before after
IsStep bytes walk most before after (Last gate) = IsOver bytes walk.gate gate.place before after × Ends bytes most after gate

-- A step over a piece of this many bytes goes past all but the last four of them, and where bytes of the piece are left,
-- to a gate that more than five bytes follow. Or it ends the walk.
abbrev pub IsAhead : (walk : Walk) (size : ℕ) → Step → Type 0
IsAhead walk size (On next) = IsInside next × (walk.gate + size ≤ next.gate + (ENTRY_HEAD - 1)) × (next.end ≤ walk.end) × (ENTRY_HEAD ≤ size) × ((next.gate + ENTRY_HEAD < next.end) ⊎ (walk.gate + size ≤ next.gate))
IsAhead walk size (Last gate) = Unit {0}

-- a walk from the first gate on, with the index of what it went over
pub record IsGoing (bytes : List ℕ) (end : ℕ) (walk : Walk) (index : List Extent) : Type 0 where
  pub payloads : List (List ℕ)
  pub walked : Walked bytes MAGIC_SIZE walk.gate payloads
  pub indexed : index ≡ extents MAGIC_SIZE payloads
  pub same_end : walk.end ≡ end

-- a walk from the first gate ended at this one
pub record IsLast (bytes : List ℕ) (most : ℕ) (index : List Extent) (gate : Gate) : Type 0 where
  pub payloads : List (List ℕ)
  pub walked : Walked bytes MAGIC_SIZE gate.place payloads
  pub indexed : index ≡ extents MAGIC_SIZE payloads
  pub ends : Ends bytes most index gate
