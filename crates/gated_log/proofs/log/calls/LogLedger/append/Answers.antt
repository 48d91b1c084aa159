use Rattle.std.proofs.Common.{◌≡◌, ◌-◌, [], ◌∷◌, length, true, inl, ◌∙◌, sym, ap, arith}
use Rattle.disk_volume.specs.Moments.{still}
use Rattle.disk_volume.specs.Lemmas.Since.{now_alone}
use Rattle.log_format.specs.Frames.{size_of}
use Rattle.log_format.proofs.CallerLemmas.{frame_group}
use Rattle.gated_log.specs.Log.{fits}
use Rattle.gated_log.specs.Lemmas.Laws.{holds_now}
use Rattle.gated_log.proofs.log.calls.LogLedger.append.Goals as goal

pub returns-then-not-room-clause-any_moment : goal.returns-then-not-room-clause-any_moment
returns-then-not-room-clause-any_moment g c = λ told payloads stands image left.
    let disk = g.V.Volume.disk c.args.volume.now in
    inl (holds_now c.args.self.now payloads disk stands image (now_alone disk image left))

pub returns-then-not-room-clause-files : goal.returns-then-not-room-clause-files
returns-then-not-room-clause-files g c = λ told. still

pub add_entries-requires-clause-group : goal.add_entries-requires-clause-group
add_entries-requires-clause-group g c =
    let payload = c.args.frame.now in
    let size : c.size-size.result - 5 ≡ length payload = omega (arith, c.size-size.ensures) in
    let together : size_of (payload ∷ []) ≡ length payload = omega arith in
    let fit : fits c.args.self.now 1 (c.size-size.result - 5) ≡ true = sym c.room.ensures ∙ c.if-not-room.false in (
      payload ∷ [],
      frame_group c.as_slice.result.now payload c.as_slice.ensures,
      ap (λ n. n ∷ []) size,
      ap (fits c.args.self.now 1) (together ∙ sym size) ∙ fit,
    )

pub returns-clause-on_disk : goal.returns-clause-on_disk
returns-clause-on_disk g c = λ told payloads stands.
    let payload = c.args.frame.now in
    let size : c.size-size.result - 5 ≡ length payload = omega (arith, c.size-size.ensures) in
    c.add_entries.ensures.on_disk told payloads (payload ∷ []) stands (frame_group c.as_slice.result.now payload c.as_slice.ensures) (ap (λ n. n ∷ []) size)
