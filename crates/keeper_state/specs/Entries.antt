-- Entries with their indexes.
use Rattle.std.specs.Prelude.{ℕ, suc, List, [], ◌∷◌}
use Rattle.keeper_table.specs.Entry.{entry_in}
use Rattle.keeper_table.specs.declared.entry.Entry.{Entry}

-- the entries in payloads, of which the first has this index
abbrev pub entries_from : (index : ℕ) → List (List ℕ) → List Entry
entries_from index [] = []
entries_from index (payload ∷ payloads) = entry_in index payload ∷ entries_from (suc index) payloads
