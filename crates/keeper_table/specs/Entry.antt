-- Entries with their indexes.
use Rattle.std.specs.Prelude.{ℕ, List}
use Rattle.keeper_entry.specs.Entry.{moment_in, sender_in, content_in}
use Rattle.keeper_table.specs.declared.entry.Entry.{Entry}

-- the entry in a payload, with this index
abbrev pub entry_in : ℕ → List ℕ → Entry
entry_in index payload = record { index = index; moment = moment_in payload; sender = sender_in payload; content = content_in payload }
