-- From where on histories are, by the payloads of a channel's list.
use Rattle.std.specs.Prelude.{◌≡◌, ◌⊎◌, ℕ, ◌+◌, ◌<◌, ◌≤◌, min, Bool, List, length, drop, Option, None, Some}
use Rattle.std.specs.List.{count_by}
use Rattle.netflux_codec.specs.declared.since.Since.{Since}
use Rattle.netflux_codec.specs.declared.since.Since.TheVariants as since
use Rattle.keeper_entry.specs.Entry.{content_in}
use Rattle.keeper_entry.specs.History.{is_checkpoint, first_from, default_start}
use Rattle.keeper_table.specs.declared.span.Span.{Span}
use Rattle.keeper_table.specs.declared.span.Span.TheVariants.{Found, Unknown}

-- a history of so many entries in all starts here, if it starts anywhere
abbrev pub found_at : Option ℕ → (total : ℕ) → Span
found_at None total = Unknown
found_at (Some first) total = Found first total

-- A default history starts at the last but one checkpoint, or at the first entry if there are fewer than two; one from a key at
-- the first entry with that key, and it is unknown if none has it; a full one at the first entry.
abbrev pub span_in : List (List ℕ) → Since → Span
span_in payloads since.Default = Found (default_start payloads) (length payloads)
span_in payloads (since.Known key) = found_at (first_from key 0 payloads) (length payloads)
span_in payloads since.All = Found 0 (length payloads)

-- the entries from an index on
abbrev pub tail_in : List (List ℕ) → (at : ℕ) → Span
tail_in payloads at = Found (min at (length payloads)) (length payloads)

-- whether the content in a payload is a checkpoint
abbrev pub has_checkpoint : List ℕ → Bool
has_checkpoint payload = is_checkpoint (content_in payload)

-- Here a default history starts: at the first entry if there are fewer than two checkpoints, and otherwise at a checkpoint behind which
-- there is exactly one more.
abbrev pub StartsByDefault : List (List ℕ) → ℕ → Type 0
StartsByDefault payloads start = ((count_by has_checkpoint payloads ≤ 1) × (start ≡ 0))
    ⊎ ((count_by has_checkpoint (drop start payloads) ≡ 2) × (count_by has_checkpoint (drop (start + 1) payloads) ≡ 1))

-- each index before the end of a history that starts somewhere is so
abbrev pub EachBefore : Span → (ℕ → Type 0) → Type 0
EachBefore (Found first total) Is = (index : ℕ) → index < total → Is index
EachBefore Unknown Is = Unit {0}

-- it tells that there are so many entries in all, if it starts somewhere
abbrev pub Counts : Span → ℕ → Type 0
Counts (Found first total) count = total ≡ count
Counts Unknown count = Unit {0}

-- it tells of at most so many entries in all, if it starts somewhere
abbrev pub HasAtMost : Span → ℕ → Type 0
HasAtMost (Found first total) most = total ≤ most
HasAtMost Unknown most = Unit {0}
