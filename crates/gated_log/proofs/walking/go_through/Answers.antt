use Rattle.std.proofs.Common.{inl, inr, ℕ, ◌+◌, take, ◌∙◌, ap, arith}
use Rattle.disk_volume.specs.Disk.{Disk, reads}
use Rattle.gated_log.proofs.Walks.{going_on, going_ends}
use Rattle.gated_log.proofs.walking.go_through.Goals as goal

pub loop-next-preserved : goal.loop-next-preserved
loop-next-preserved g c =
    let so_far = c.loop-next.invariant in
    let ahead = rw c.in-On.is at c.in_ok-next.ensures.ahead in
    record {
      inside = ahead.0;
      within = omega (arith, ahead.2, so_far.within);
      forward = omega (arith, so_far.forward, ahead.1, ahead.3);
      buffer = c.go_on.auto.piece ∙ so_far.buffer;
      faults = elim c.in_ok-next.ensures.kept [ inl store ↦ absurd (cc) | inr same ↦ same ∙ so_far.faults ];
      follows = g.met.V.Volume.follows_on _ _ _ so_far.follows c.in_ok-next.ensures.follows;
      calls = so_far.calls + 1;
      clock = omega (arith, so_far.clock, c.in_ok-next.ensures.clock);
      passed = omega (arith, so_far.passed, ahead.1, so_far.buffer);
      disk = λ told. c.in_ok-next.ensures.disk told ∙ so_far.disk told;
      going = λ told end first.
          let here = so_far.going told end first in
          let step = rw c.in-On.is at (c.in_ok-next.ensures.step told) in
          going_on _ _ c.args.most end c.loop-next.walk c.in-On.next _ _ here
          (ap (λ (e : ℕ). take e (reads (g.V.Volume.disk c.loop-next.volume) c.args.file.now)) here.same_end
          ∙ ap (λ (disk : Disk). take end (reads disk c.args.file.now)) (so_far.disk told)) step;
    }

pub returns-in-Last-clause-last : goal.returns-in-Last-clause-last
returns-in-Last-clause-last g c = λ told end first.
    let so_far = c.loop-next.invariant in
    let here = so_far.going told end first in
    let step = rw c.in-Last.is at (c.in_ok-next.ensures.step told) in
    going_ends _ _ c.args.most end c.loop-next.walk c.in-Last.gate _ _ here
    (ap (λ (e : ℕ). take e (reads (g.V.Volume.disk c.loop-next.volume) c.args.file.now)) here.same_end
    ∙ ap (λ (disk : Disk). take end (reads disk c.args.file.now)) (so_far.disk told)) step
