use Rattle.std.proofs.Common.{◌≡◌, ◌∙◌, inl, inr, true, false, refl, sym, ap, subst}
use Rattle.disk_volume.specs.Moments.{moment}
use Rattle.disk_volume.specs.Lemmas.Since.{since_now}
use Rattle.std.proofs.lemmas.List.Elements.{All-append}
use Rattle.keeper_entry.specs.Entry.{IsEntry}
use Rattle.keeper_channel.specs.Logs.{HasCount}
use Rattle.keeper_channel.specs.declared.refused.KeeperRefused.TheVariants.{Full, Store, Damaged}
use Rattle.keeper_channel.specs.Inside.Refusals.{once_begun}
use Rattle.keeper_channel.proofs.Results.{same_refusal, begun_full, begun_store, begun_damaged}
use Rattle.keeper_channel.proofs.Slots.{few_made}
use Rattle.keeper_channel.proofs.keeping.store_indexed.Goals as goal

pub returns-in-Ok-clause-stored : goal.returns-in-Ok-clause-stored
returns-in-Ok-clause-stored g c = λ told held suspense live all entries indexed room.
    let added = c.in-Ok.ensures.added told held suspense live in
    record {
      each = added.each;
      left = (record { live = added.left.0; indexed = indexed; entries = All-append IsEntry held c.args.group.now all entries }, added.left.1);
      full = ((λ is_full. absurd (cc)), (λ none. let e : true ≡ false = sym room ∙ none in absurd (cc)));
      nothing = λ is_full. absurd (cc);
      undamaged = λ damage is. absurd (cc);
      spared = tt;
    }

pub returns-in-Err-clause-stored : goal.returns-in-Err-clause-stored
returns-in-Err-clause-stored g c = λ told held suspense live all entries indexed room.
    let added = c.in-Err.ensures.added told held suspense live in
    let old = g.V.Volume.disk c.args.volume.now in let new = g.V.Volume.disk c.store_live.new.volume in
    record {
      each = added.each;
      left = tt;
      full = ((λ is_full. absurd (begun_full c.in-Err.refused (sym c.refused_once_begun.ensures ∙ same_refusal c.refused_once_begun.result Full is_full))), (λ none. let e : true ≡ false = sym room ∙ none in absurd (cc)));
      nothing = λ is_full. absurd (begun_full c.in-Err.refused (sym c.refused_once_begun.ensures ∙ same_refusal c.refused_once_begun.result Full is_full));
      undamaged = λ damage is. elim (begun_damaged c.in-Err.refused damage (sym c.refused_once_begun.ensures ∙ same_refusal c.refused_once_begun.result (Damaged damage) is)) [
        | inl full ↦ let e : true ≡ false = sym room ∙ added.full (rw full refl) in absurd (cc)
        | inr damaged ↦ added.sound damage (rw damaged refl) all
      ];
      spared = elim added.left [
        | inl since ↦ inl ((λ image now. since image (since_now (moment old) new image now)), since)
        | inr store ↦ inr (c.refused_once_begun.ensures ∙ ap once_begun store.0, store.1)
      ];
    }

pub returns-in-Err-clause-full : goal.returns-in-Err-clause-full
returns-in-Err-clause-full g c = λ is. begun_full c.in-Err.refused (sym c.refused_once_begun.ensures ∙ same_refusal c.refused_once_begun.result Full is)

pub returns-in-Err-clause-store : goal.returns-in-Err-clause-store
returns-in-Err-clause-store g c = λ is.
    let same : c.in-Err.refused ≡ Store = begun_store c.in-Err.refused (sym c.refused_once_begun.ensures ∙ same_refusal c.refused_once_begun.result Store is) in
    c.in-Err.ensures.store (rw same refl)

pub returns-in-Err-clause-kept : goal.returns-in-Err-clause-kept
returns-in-Err-clause-kept g c = elim c.in-Err.ensures.kept [
  | inl is ↦
      let same : c.in-Err.refused ≡ Store = same_refusal c.in-Err.refused Store is in
      let told : c.refused_once_begun.result ≡ Store = c.refused_once_begun.ensures ∙ ap once_begun same in
      inl (rw told refl)
  | inr same ↦ inr same
]

pub returns-in-Ok-clause-made : goal.returns-in-Ok-clause-made
returns-in-Ok-clause-made g c =
    let given = c.requires.counted in
    let has = subst (λ n. HasCount g.O.Ledger.count g.G.Ledger.count c.in-Ok.added.logs n) (sym given.2) (c.in-Ok.ensures.counted given.0 given.1) in
    record {
      made = c.in-Ok.ensures.made;
      counted = has;
      indexed = c.requires.indexed;
      few = few_made g.O.Ledger.name g.O.Ledger.form_of g.O.Ledger.live g.O.Ledger.count g.G.Ledger.name g.G.Ledger.form_of g.G.Ledger.live g.G.Ledger.count
          c.args.one.now c.args.two.now c.in-Ok.added.logs c.args.index.count g.met.O.Ledger.count_few g.met.G.Ledger.count_few c.in-Ok.ensures.made has;
    }
