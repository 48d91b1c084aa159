use Rattle.std.proofs.Common.{inl, refl}
use Rattle.disk_volume.specs.Moments.{no_sync}
use Rattle.pad_log.proofs.writing.write_channel.Goals as goal

-- there was no memory: nothing was done
pub returns-in-Err-clause-part : goal.returns-in-Err-clause-part
returns-in-Err-clause-part g c = inl refl

pub returns-in-Err-clause-syncs : goal.returns-in-Err-clause-syncs
returns-in-Err-clause-syncs g c = λ told. no_sync

pub returns-in-Err-clause-spoiled : goal.returns-in-Err-clause-spoiled
returns-in-Err-clause-spoiled g c = λ told damage is. (tt, λ write. absurd (cc), refl)
