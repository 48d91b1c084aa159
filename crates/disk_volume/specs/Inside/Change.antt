-- A change as contracts see it.
use Rattle.disk_volume.specs.declared.done.Change.{Change}
use Rattle.disk_volume.specs.declared.done.Change.TheVariants.{Wrote, Cut, Synced}
use Rattle.disk_volume.specs.Step.{Step, writes, cuts, syncs}

abbrev pub step_of : Change → Step
step_of (Wrote at piece) = writes at piece.items
step_of (Cut to) = cuts to
step_of Synced = syncs
