use Rattle.disk_volume.specs.Lemmas.Since.{grew_within}
use Rattle.disk_volume.specs.Moments.{no_sync}
use Rattle.std.proofs.Common.{inr}
use Rattle.keeper_channel.proofs.stores.store_slot.Goals as goal

pub returns-in-Some-clause-stored : goal.returns-in-Some-clause-stored
returns-in-Some-clause-stored g c = λ told held suspense tie. rw c.in-Some.is (c.store_entries.ensures.stored told held suspense (rw c.in-Some.is at tie))

pub returns-in-None-clause-stored : goal.returns-in-None-clause-stored
returns-in-None-clause-stored g c = λ told held suspense tie. rw c.in-None.is (c.store_unloaded.ensures.stored told held suspense (rw c.in-None.is at tie))

pub returns-in-Some-clause-files : goal.returns-in-Some-clause-files
returns-in-Some-clause-files g c = λ told. grew_within (g.V.Volume.disk c.store_entries.new.volume) (λ file is. inr is) (c.store_entries.ensures.files told)

pub returns-in-Some-clause-acts : goal.returns-in-Some-clause-acts
returns-in-Some-clause-acts g c = λ told. record { mid = g.V.Volume.disk c.args.volume.now; syncs = no_sync; acts = c.store_entries.ensures.files told }

pub returns-in-Some-clause-full : goal.returns-in-Some-clause-full
returns-in-Some-clause-full g c = rw c.in-Some.is c.store_entries.ensures.full

pub returns-in-None-clause-full : goal.returns-in-None-clause-full
returns-in-None-clause-full g c = rw c.in-None.is tt

pub returns-in-Some-clause-nothing : goal.returns-in-Some-clause-nothing
returns-in-Some-clause-nothing g c = λ some. c.store_entries.ensures.nothing

pub returns-in-None-clause-nothing : goal.returns-in-None-clause-nothing
returns-in-None-clause-nothing g c = λ some. let no = rw c.in-None.is at some in absurd (cc)

pub returns-in-Some-clause-same : goal.returns-in-Some-clause-same
returns-in-Some-clause-same g c = rw c.in-Some.is c.store_entries.ensures.same

pub returns-in-None-clause-same : goal.returns-in-None-clause-same
returns-in-None-clause-same g c = rw c.in-None.is tt
