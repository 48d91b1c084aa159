use Rattle.std.proofs.Common.{inl, inr, ◌∙◌, ℕ, List, Some, sym, ap, subst}
use Rattle.disk_volume.specs.Disk.{Disk}
use Rattle.keeper_channel.proofs.Chans.{none_more, empty_payload, full_payload}
use Rattle.keeper_channel.proofs.marker.find_marker.Goals as goal

pub returns-then-is_empty-clause-found : goal.returns-then-is_empty-clause-found
returns-then-is_empty-clause-found g c = λ told payloads holds.
    let here = subst (λ (disk : Disk). g.G.Ledger.holds c.args.log.now payloads disk) (sym (c.loop-index.invariant.disk told)) holds in
    let got = c.in_ok-payload.ensures.payload told payloads here in
    let empty = empty_payload _ c.as_slice.result.now c.is_empty.result c.as_slice.ensures c.is_empty.ensures c.if-is_empty.true in
    (got ∙ ap (λ (p : List ℕ). Some p) empty, c.loop-index.invariant.none told payloads holds)

pub loop-index-preserved : goal.loop-index-preserved
loop-index-preserved g c = record {
  disk = λ told. c.read.ensures.disk told ∙ c.loop-index.invariant.disk told;
  none = λ told payloads holds.
      let here = subst (λ (disk : Disk). g.G.Ledger.holds c.args.log.now payloads disk) (sym (c.loop-index.invariant.disk told)) holds in
      none_more payloads c.loop-index.index _ (c.in_ok-payload.ensures.payload told payloads here)
      (full_payload _ c.as_slice.result.now c.is_empty.result c.as_slice.ensures c.is_empty.ensures c.if-is_empty.false) (c.loop-index.invariant.none told payloads holds);
  follows = g.met.V.Volume.follows_on c.args.volume.now c.loop-index.volume c.read.new.volume c.loop-index.invariant.follows c.read.ensures.follows;
  faults = elim c.in_ok-payload.ensures.kept [ inl store ↦ absurd (cc) | inr same ↦ same ∙ c.loop-index.invariant.faults ];
}
