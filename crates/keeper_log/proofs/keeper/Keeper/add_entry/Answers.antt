use Rattle.std.proofs.Common.{◌≡◌, ◌∙◌, ◌++◌, [], ◌∷◌, is_some, inl, inr, refl, sym, ap, subst}
use Rattle.disk_volume.specs.Disk.{Disk}
use Rattle.keeper_state.specs.State.{live, StandsFor}
use Rattle.keeper_table.specs.Table.{channel_in, joined}
use Rattle.keeper_channel.specs.declared.refused.KeeperRefused.TheVariants.{Store}
use Rattle.keeper_log.proofs.Histories.{read_left}
use Rattle.keeper_log.proofs.Refusals.{refused_again, same_refusal}
use Rattle.keeper_log.proofs.Tables.{known, read_none}
use Rattle.keeper_log.proofs.keeper.Keeper.add_entry.Goals as goal

pub returns-in-Ok-push_entry-clause-added : goal.returns-in-Ok-push_entry-clause-added
returns-in-Ok-push_entry-clause-added g c = λ told held suspense stands.
    let got = c.in-Ok.ensures.entry told held suspense stands in
    (got.0, got.1, c.in-Ok-push_entry.ensures ∙ ap (λ e. c.args.entries.now.items ++ e ∷ []) got.2)

pub returns-in-Err-clause-left : goal.returns-in-Err-clause-left
returns-in-Err-clause-left g c = λ told held suspense stands.
    let O = g.O.Ledger in let G = g.G.Ledger in let channel = c.args.channel.now in let new = g.V.Volume.disk c.entry.new.volume in
    read_left (λ next. StandsFor O.rests G.rests O.opens_as G.opens_as G.doubt O.holds G.holds channel (channel_in c.entry.new.self.table channel) next new) held suspense c.in-Err.refused
    c.in-Err.ensures.full (c.in-Err.ensures.sound told) (λ is. c.in-Err.ensures.stands told held suspense stands is)
    (λ no. elim c.in-Err.ensures.same [
      | inl store ↦ absurd (no store)
      | inr same ↦
          subst (λ k. StandsFor O.rests G.rests O.opens_as G.opens_as G.doubt O.holds G.holds channel (channel_in k.table channel) (live held suspense) new) (sym same)
          (subst (λ (d : Disk). StandsFor O.rests G.rests O.opens_as G.opens_as G.doubt O.holds G.holds channel (channel_in c.args.self.now.table channel) (live held suspense) d) (sym (c.entry.ensures.disk told)) stands)
    ])

pub returns-in-Err-clause-again : goal.returns-in-Err-clause-again
returns-in-Err-clause-again g c = λ is.
    let same : c.in-Err.refused ≡ Store = same_refusal c.in-Err.refused Store is in
    ap joined (c.in-Err.ensures.again (rw same refl))

pub returns-in-Err-push_entry-clause-left : goal.returns-in-Err-push_entry-clause-left
returns-in-Err-push_entry-clause-left g c = λ told held suspense stands.
    let O = g.O.Ledger in let G = g.G.Ledger in let channel = c.args.channel.now in let new = g.V.Volume.disk c.entry.new.volume in (
      live held suspense,
      refl,
      subst (λ k. StandsFor O.rests G.rests O.opens_as G.opens_as G.doubt O.holds G.holds channel (channel_in k.table channel) (live held suspense) new) (sym c.in-Ok.ensures.unmoved)
          (subst (λ (d : Disk). StandsFor O.rests G.rests O.opens_as G.opens_as G.doubt O.holds G.holds channel (channel_in c.args.self.now.table channel) (live held suspense) d) (sym (c.entry.ensures.disk told)) stands),
    )

pub returns-in-Ok-push_entry-clause-table : goal.returns-in-Ok-push_entry-clause-table
returns-in-Ok-push_entry-clause-table g c = read_none c.args.channel.now _ _ (ap (λ k. k.table) c.in-Ok.ensures.unmoved)

pub returns-in-Err-push_entry-clause-table : goal.returns-in-Err-push_entry-clause-table
returns-in-Err-push_entry-clause-table g c = read_none c.args.channel.now _ _ (ap (λ k. k.table) c.in-Ok.ensures.unmoved)

pub returns-in-Err-clause-table : goal.returns-in-Err-clause-table
returns-in-Err-clause-table g c = record {
  others = c.entry.ensures.others;
  known = elim c.in-Err.ensures.same [
    | inl store ↦ let same : c.in-Err.refused ≡ Store = same_refusal c.in-Err.refused Store store in
        let tied = c.requires.loaded in
        ap is_some (c.in-Err.ensures.again (rw same refl)) ∙ sym (known (channel_in c.args.self.now.table c.args.channel.now) tied.0 tied.1)
    | inr same ↦ ap (λ k. is_some (channel_in k.table c.args.channel.now)) same
  ];
  size = c.entry.ensures.size;
}

pub returns-in-Err-clause-full : goal.returns-in-Err-clause-full
returns-in-Err-clause-full g c = λ is. c.in-Err.ensures.full (refused_again _ _ is)

pub returns-in-Err-push_entry-clause-full : goal.returns-in-Err-push_entry-clause-full
returns-in-Err-push_entry-clause-full g c = λ is. let same = same_refusal _ _ is in absurd (cc)
