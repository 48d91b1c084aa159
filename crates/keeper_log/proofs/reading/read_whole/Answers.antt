use Rattle.std.proofs.Common.{◌∙◌, sym, ap, subst}
use Rattle.keeper_entry.specs.Entry.{IsEntry}
use Rattle.keeper_table.specs.Entry.{entry_in}
use Rattle.keeper_log.proofs.reading.read_whole.Goals as goal

-- the entry that was read
pub returns-in-Ok-Some-clause-entry : goal.returns-in-Ok-Some-clause-entry
returns-in-Ok-Some-clause-entry g c = λ told doubt held suspense is.
    let found = rw c.in-Ok-Some.field-0-is at c.in-Ok-Some.ensures in
    (c.in-Ok.payload, c.in-Ok.ensures.payload told doubt held suspense is, found.1 ∙ ap (entry_in c.args.index) c.as_slice.ensures)

-- what was read holds an entry, so there is one
pub returns-in-Ok-None-clause-sound : goal.returns-in-Ok-None-clause-sound
returns-in-Ok-None-clause-sound g c = λ told damage is.
    let none = rw c.in-Ok-None.field-0-is at c.in-Ok-None.ensures in
    none (subst IsEntry (sym c.as_slice.ensures) c.in-Ok.ensures.entry)
