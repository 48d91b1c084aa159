-- The channels that a keeper has loaded, as a finite map.
use Rattle.std.specs.Prelude.{◌≡◌, ℕ, ◌≤◌, List, Option, None, Some}
use Rattle.std.specs.Ordering.{nat_cmp}
use Rattle.std.specs.Cmp.Lexicographic.{slice_cmp}
use Rattle.std.specs.BTreeMap.{get, btree_map_len}
use Rattle.keeper_table.specs.declared.table.Table.{Table}
use Rattle.keeper_table.specs.declared.table.TheConstants.{MOST_CHANNELS}

-- what a table has of a channel: nothing if it was not loaded yet; and otherwise a slot, or none if it has to be loaded again
abbrev pub channel_in : {S : Type 0} → Table S → List ℕ → Option (Option S)
channel_in table channel = get (slice_cmp nat_cmp) table.slots channel

-- the slot, if there is one
abbrev pub joined : {S : Type 0} → Option (Option S) → Option S
joined None = None
joined (Some slot) = slot

abbrev pub slot_in : {S : Type 0} → Table S → List ℕ → Option S
slot_in table channel = joined (channel_in table channel)

-- how many channels it has
abbrev pub size_of : {S : Type 0} → Table S → ℕ
size_of table = btree_map_len table.slots

-- a channel would be one too many: it was not loaded yet, and as many as a keeper takes were
abbrev pub IsOneTooMany : {S : Type 0} → Table S → List ℕ → Type 0
IsOneTooMany table channel = (MOST_CHANNELS ≤ size_of table) × (channel_in table channel ≡ None)

-- how many channels a table has more, if it has this of a channel in place of that, and of each other what it had
abbrev pub newly : {S : Type 0} → (old new : Option (Option S)) → ℕ
newly None None = 0
newly None (Some slot) = 1
newly (Some slot) new = 0
