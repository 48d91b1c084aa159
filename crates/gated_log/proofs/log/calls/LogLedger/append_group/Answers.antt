use Rattle.std.proofs.Common.{inl}
use Rattle.disk_volume.specs.Moments.{still}
use Rattle.disk_volume.specs.Lemmas.Since.{now_alone}
use Rattle.gated_log.specs.Lemmas.Laws.{holds_now}
use Rattle.gated_log.proofs.log.calls.LogLedger.append_group.Goals as goal

pub returns-then-not-room-clause-any_moment : goal.returns-then-not-room-clause-any_moment
returns-then-not-room-clause-any_moment g c = λ told payloads stands image left.
    let disk = g.V.Volume.disk c.args.volume.now in
    inl (holds_now c.args.self.now payloads disk stands image (now_alone disk image left))

pub returns-then-not-room-clause-files : goal.returns-then-not-room-clause-files
returns-then-not-room-clause-files g c = λ told. still

pub returns-clause-on_disk : goal.returns-clause-on_disk
returns-clause-on_disk g c = λ told payloads stands. c.add_entries.ensures.on_disk told payloads c.args.group.now stands c.as_slice.ensures c.sizes-sizes.ensures
