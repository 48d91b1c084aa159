-- Where `first > total` the loop makes no turn, and there are no entries from there on.
use Rattle.std.proofs.Common.{◌∙◌, ◌+◌, ◌<◌, drop, is_some, inl, inr, refl, sym, ap, subst, arith, length-drop}
use Rattle.std.proofs.lemmas.List.{take_all}
use Rattle.std.proofs.lemmas.Result.{err_from_is_err_and}
use Rattle.disk_volume.specs.Disk.{Disk}
use Rattle.keeper_state.specs.Entries.{entries_from}
use Rattle.keeper_log.specs.Keeper.{HasEntry, IsKeeper}
use Rattle.keeper_state.specs.State.{live, StandsFor}
use Rattle.keeper_table.specs.Table.{channel_in, size_of}
use Rattle.keeper_log.proofs.Histories.{entries_more, got_behind}
use Rattle.keeper_log.proofs.Refusals.{refused_again}
use Rattle.keeper_log.proofs.keeper.Keeper.entries_from.Goals as goal

pub loop-index-init : goal.loop-index-init
loop-index-init g c = record {
  same = refl;
  so_far = λ told held suspense stands. (0, omega arith, c.new-entries.ensures.items);
  disk = λ told. refl;
  follows = g.met.V.Volume.follows_itself c.args.volume.now;
  faults = refl;
}

pub add_entry-requires-clause-loaded : goal.add_entry-requires-clause-loaded
add_entry-requires-clause-loaded g c =
    let within : c.loop-index.index < c.args.total = omega arith in
    subst (λ k. HasEntry k.table c.args.channel.now c.loop-index.index) (sym c.loop-index.invariant.same) (c.requires.loaded c.loop-index.index within)

pub add_entry-requires-clause-made : goal.add_entry-requires-clause-made
add_entry-requires-clause-made g c =
    let O = g.O.Ledger in let G = g.G.Ledger in
    subst (λ k. IsKeeper O.name O.form_of O.live O.count G.name G.form_of G.live G.count k.table) (sym c.loop-index.invariant.same) c.requires.made

pub add_entry-requires-clause-tie : goal.add_entry-requires-clause-tie
add_entry-requires-clause-tie g c = λ told.
    let O = g.O.Ledger in let G = g.G.Ledger in let tie = c.requires.tie told in (
      tie.0,
      tie.1,
      subst (λ k. StandsFor O.rests G.rests O.opens_as G.opens_as G.doubt O.holds G.holds c.args.channel.now (channel_in k.table c.args.channel.now) (live tie.0 tie.1) (g.V.Volume.disk c.loop-index.volume)) (sym c.loop-index.invariant.same)
          (subst (λ (d : Disk). StandsFor O.rests G.rests O.opens_as G.opens_as G.doubt O.holds G.holds c.args.channel.now (channel_in c.args.self.now.table c.args.channel.now) (live tie.0 tie.1) d) (sym (c.loop-index.invariant.disk told)) tie.2),
    )

pub loop-index-preserved : goal.loop-index-preserved
loop-index-preserved g c = record {
  same = c.in_ok-add_entry.ensures.same ∙ c.loop-index.invariant.same;
  so_far = λ told held suspense stands.
      let O = g.O.Ledger in let G = g.G.Ledger in
      let before = c.loop-index.invariant.so_far told held suspense stands in
      let here =
      subst (λ k. StandsFor O.rests G.rests O.opens_as G.opens_as G.doubt O.holds G.holds c.args.channel.now (channel_in k.table c.args.channel.now) (live held suspense) (g.V.Volume.disk c.loop-index.volume)) (sym c.loop-index.invariant.same)
      (subst (λ (d : Disk). StandsFor O.rests G.rests O.opens_as G.opens_as G.doubt O.holds G.holds c.args.channel.now (channel_in c.args.self.now.table c.args.channel.now) (live held suspense) d) (sym (c.loop-index.invariant.disk told)) stands) in
      let added = c.in_ok-add_entry.ensures.added told held suspense here in
      let got = got_behind c.args.first before.0 held ∙ rw before.1 added.1 in
      (before.0 + 1, omega (arith, before.1), added.2 ∙ rw (sym before.1, before.2) (entries_more c.args.first before.0 (drop c.args.first held) added.0 got));
  disk = λ told. c.add_entry.ensures.disk told ∙ c.loop-index.invariant.disk told;
  follows = g.met.V.Volume.follows_on c.args.volume.now c.loop-index.volume c.add_entry.new.volume c.loop-index.invariant.follows c.add_entry.ensures.follows;
  faults = elim c.in_ok-add_entry.ensures.kept [ inl store ↦ absurd (cc) | inr same ↦ same ∙ c.loop-index.invariant.faults ];
}

pub returns-clause-entries : goal.returns-clause-entries
returns-clause-entries g c = λ told held suspense stands total.
    let first = c.args.first in
    let so_far = c.loop-index.invariant.so_far told held suspense stands in
    c.new.ensures ∙ so_far.2 ∙ ap (entries_from first) (take_all so_far.0 (drop first held) (omega (arith, length-drop first held, so_far.1, total)))

pub returns-clause-stands : goal.returns-clause-stands
returns-clause-stands g c = λ told held suspense stands.
    let O = g.O.Ledger in let G = g.G.Ledger in
    subst (λ k. StandsFor O.rests G.rests O.opens_as G.opens_as G.doubt O.holds G.holds c.args.channel.now (channel_in k.table c.args.channel.now) (live held suspense) (g.V.Volume.disk c.loop-index.volume)) (sym c.loop-index.invariant.same)
    (subst (λ (d : Disk). StandsFor O.rests G.rests O.opens_as G.opens_as G.doubt O.holds G.holds c.args.channel.now (channel_in c.args.self.now.table c.args.channel.now) (live held suspense) d) (sym (c.loop-index.invariant.disk told)) stands)

pub returns-clause-made : goal.returns-clause-made
returns-clause-made g c =
    let O = g.O.Ledger in let G = g.G.Ledger in
    subst (λ k. IsKeeper O.name O.form_of O.live O.count G.name G.form_of G.live G.count k.table) (sym c.loop-index.invariant.same) c.requires.made

pub returns-clause-table : goal.returns-clause-table
returns-clause-table g c = record {
  others = λ other differ. ap (λ k. channel_in k.table other) c.loop-index.invariant.same;
  known = ap (λ k. is_some (channel_in k.table c.args.channel.now)) c.loop-index.invariant.same;
  size = ap (λ k. size_of k.table) c.loop-index.invariant.same;
}

pub returns-in_err-add_entry-clause-stands : goal.returns-in_err-add_entry-clause-stands
returns-in_err-add_entry-clause-stands g c = let p = err_from_is_err_and c.from_residual.result c.from_residual.ensures.1 in rw (p.1, p.2) (λ told held suspense stands.
    let O = g.O.Ledger in let G = g.G.Ledger in
    let here =
    subst (λ k. StandsFor O.rests G.rests O.opens_as G.opens_as G.doubt O.holds G.holds c.args.channel.now (channel_in k.table c.args.channel.now) (live held suspense) (g.V.Volume.disk c.loop-index.volume)) (sym c.loop-index.invariant.same)
    (subst (λ (d : Disk). StandsFor O.rests G.rests O.opens_as G.opens_as G.doubt O.holds G.holds c.args.channel.now (channel_in c.args.self.now.table c.args.channel.now) (live held suspense) d) (sym (c.loop-index.invariant.disk told)) stands) in
    c.in_err-add_entry.ensures.left told held suspense here)

pub returns-in_err-add_entry-clause-table : goal.returns-in_err-add_entry-clause-table
returns-in_err-add_entry-clause-table g c = let reads = c.add_entry.ensures.table in record {
  others = λ other differ. reads.others other differ ∙ ap (λ k. channel_in k.table other) c.loop-index.invariant.same;
  known = reads.known ∙ ap (λ k. is_some (channel_in k.table c.args.channel.now)) c.loop-index.invariant.same;
  size = reads.size ∙ ap (λ k. size_of k.table) c.loop-index.invariant.same;
}

pub returns-in_err-add_entry-clause-full : goal.returns-in_err-add_entry-clause-full
returns-in_err-add_entry-clause-full g c = let p = err_from_is_err_and c.from_residual.result c.from_residual.ensures.1 in
    rw (p.1, p.2) (λ is. c.in_err-add_entry.ensures.full (refused_again _ _ is))

pub returns-in_err-add_entry-clause-disk : goal.returns-in_err-add_entry-clause-disk
returns-in_err-add_entry-clause-disk g c = λ told. c.add_entry.ensures.disk told ∙ c.loop-index.invariant.disk told
