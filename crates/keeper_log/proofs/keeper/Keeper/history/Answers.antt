use Rattle.std.proofs.Common.{◌∙◌, arith, inl, length, sym, subst}
use Rattle.disk_volume.specs.Disk.{reads}
use Rattle.keeper_table.specs.Span.{Counts}
use Rattle.keeper_state.specs.State.{Finds, StandsFor}
use Rattle.keeper_table.specs.Table.{channel_in, size_of}
use Rattle.keeper_log.proofs.Histories.{counts_in, reads_from}
use Rattle.keeper_log.proofs.Refusals.{ok_is_none, refused_again}
use Rattle.keeper_log.proofs.Tables.{newly_known}
use Rattle.keeper_log.proofs.keeper.Keeper.history.Goals as goal

-- the tie that `history_of` needs: `span` left the channel live
pub history_of-requires-clause-tie : goal.history_of-requires-clause-tie
history_of-requires-clause-tie g c = λ told.
    let O = g.O.Ledger in let G = g.G.Ledger in let channel = c.args.channel.now in
    let tie = c.requires.tie told in
    let was = (c.in-Ok.ensures.told told).told tie.0 tie.1 in (
      was.1.1,
      was.1.2,
      subst (λ next. StandsFor O.rests G.rests O.opens_as G.opens_as G.doubt O.holds G.holds channel (channel_in c.span.new.self.table channel) next (g.V.Volume.disk c.span.new.volume)) was.1.4.1 was.2,
    )

pub returns-in-Ok-clause-told : goal.returns-in-Ok-clause-told
returns-in-Ok-clause-told g c = λ told.
    let O = g.O.Ledger in let G = g.G.Ledger in let channel = c.args.channel.now in
    let asks = c.in-Ok.ensures.told told in record {
      told = λ state stands.
          let was = asks.told state stands in
          let here = subst (λ next. StandsFor O.rests G.rests O.opens_as G.opens_as G.doubt O.holds G.holds channel (channel_in c.span.new.self.table channel) next (g.V.Volume.disk c.span.new.volume)) was.1.4.1 was.2 in
          let counts = subst (λ s. Counts s (length was.1.1)) (sym was.1.4.0) (counts_in was.1.1 c.args.from.now) in
          reads_from (λ next. StandsFor O.rests G.rests O.opens_as G.opens_as G.doubt O.holds G.holds channel (channel_in c.history_of.new.self.table channel) next (g.V.Volume.disk c.history_of.new.volume))
          (Finds O.opens_as G.opens_as G.doubt O.damage G.damage channel (reads (g.V.Volume.disk c.args.volume.now))) (size_of c.args.self.now.table) state was.1.1 was.1.2 c.args.from.now c.in-Ok.span c.history_of.result
          (c.history_of.ensures.stands told was.1.1 was.1.2 here) (c.history_of.ensures.answer told was.1.1 was.1.2 here counts) was.1.4.0 was.1.0 was.1.3;
      leaves = rw (c.history_of.ensures.disk told) asks.leaves;
      syncs = rw (c.history_of.ensures.disk told) asks.syncs;
    }

pub returns-in-Err-clause-told : goal.returns-in-Err-clause-told
returns-in-Err-clause-told g c = λ told.
    let asks = c.in-Err.ensures.told told in record {
      told = λ state stands. let was = asks.told state stands in (was.0, inl was.1, was.2);
      leaves = asks.leaves;
      syncs = asks.syncs;
    }

-- reading its entries never answers `Full`, and a channel that was spanned is none too many
pub returns-in-Ok-clause-full : goal.returns-in-Ok-clause-full
returns-in-Ok-clause-full g c = (λ is. absurd (c.history_of.ensures.full is), λ many. absurd (ok_is_none c.in-Ok.span _ (c.in-Ok.ensures.full.1 many)))

pub returns-in-Err-clause-full : goal.returns-in-Err-clause-full
returns-in-Err-clause-full g c = (λ is. c.in-Err.ensures.full.0 (refused_again _ _ is), λ many. refused_again _ _ (c.in-Err.ensures.full.1 many))

pub returns-in-Ok-clause-table : goal.returns-in-Ok-clause-table
returns-in-Ok-clause-table g c =
    let channel = c.args.channel.now in
    let same = newly_known (channel_in c.args.self.now.table channel) (channel_in c.span.new.self.table channel) (channel_in c.history_of.new.self.table channel) c.history_of.ensures.table.known in record {
      others = λ other differ. c.history_of.ensures.table.others other differ ∙ c.span.ensures.table.others other differ;
      grew = omega (arith, same, c.history_of.ensures.table.size, c.span.ensures.table.grew);
    }

pub returns-in-Err-clause-again : goal.returns-in-Err-clause-again
returns-in-Err-clause-again g c = λ is. c.in-Err.ensures.unloaded
