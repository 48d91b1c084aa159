use Rattle.std.proofs.Common.{◌≡◌, ◌∙◌, ◌⊎◌, inl, inr, List, ℕ, refl, sym, ap}
use Rattle.disk_volume.specs.Lemmas.Since.{each_then, grew_then, grew_within}
use Rattle.disk_volume.specs.Moments.{still}
use Rattle.log_format.specs.declared.damage.Damage.{Damage}
use Rattle.log_format.specs.declared.form.Form.TheVariants.{One, Two}
use Rattle.gated_log.specs.declared.refused.LoadRefused.{LoadRefused}
use Rattle.gated_log.specs.declared.refused.LoadRefused.TheVariants.{Store as LoadStore, Damaged as LoadDamaged, NoMemory as LoadNoMemory}
use Rattle.keeper_channel.specs.Chan.{IsList, IsWithin}
use Rattle.keeper_channel.specs.Logs.{NamesDamage}
use Rattle.keeper_channel.specs.Slot.{NamesIt}
use Rattle.keeper_channel.specs.Inside.Refusals.{refused_by}
use Rattle.keeper_channel.specs.declared.refused.KeeperRefused.TheVariants.{Full, Store, Damaged, NoMemory}
use Rattle.keeper_channel.proofs.Results.{same_refusal}
use Rattle.keeper_channel.proofs.Stays.{syncs_within}
use Rattle.keeper_channel.proofs.stores.store_unloaded.Goals as goal

names_it : (is : Damage → Type 0) (refused : LoadRefused) → NamesDamage is refused → NamesIt is (refused_by refused)
names_it is LoadStore names = tt
names_it is (LoadDamaged damage) names = names
names_it is (LoadNoMemory error) names = tt

store_before : (refused : LoadRefused) → refused_by refused ≡ Store → refused ≡ LoadStore
store_before LoadStore is = refl
store_before (LoadDamaged damage) is = let e : Damaged damage ≡ Store = is in absurd (cc)
store_before (LoadNoMemory error) is = let e : NoMemory error ≡ Store = is in absurd (cc)

pub store_entries-requires-clause-slot : goal.store_entries-requires-clause-slot
store_entries-requires-clause-slot g c = λ told.
    let tie = c.requires.tie told in
    let was = c.in-Ok.ensures.reloaded told tie.0 tie.1 tie.2 in
    (was.loaded, was.doubtful, was.slot_is)

pub returns-in-Ok-clause-stored : goal.returns-in-Ok-clause-stored
returns-in-Ok-clause-stored g c = λ told held suspense tie.
    let O = g.O.Ledger in let G = g.G.Ledger in
    let old = g.V.Volume.disk c.args.volume.now in let mid = g.V.Volume.disk c.reload.new.volume in let new = g.V.Volume.disk c.store_entries.new.volume in
    let opens_one = O.opens_as One c.args.one.now in let opens_two = G.opens_as Two c.args.two.now in
    let was = c.in-Ok.ensures.reloaded told held suspense tie in
    let stored = c.store_entries.ensures.stored told was.loaded was.doubtful was.slot_is in
    let P : (List ℕ → List ℕ) → Type 0 = λ image. IsWithin (IsList opens_one opens_two image) held suspense
    ⊎ (IsWithin (IsList opens_one opens_two image) was.loaded was.doubtful ⊎ IsWithin (IsList opens_one opens_two image) was.loaded c.args.entries.now) in
    inr (record {
      loaded = was.loaded;
      doubtful = was.doubtful;
      found = was.found;
      is_loaded = was.is_loaded;
      undamaged = c.in-Ok.ensures.undamaged told;
      mid = mid;
      syncs = syncs_within mid (λ file is. tt) (c.in-Ok.ensures.syncs told);
      stored = stored;
      each = each_then old mid new P (c.store_entries.ensures.files told) (λ image left. inl (c.in-Ok.ensures.any_moment told held suspense tie image left)) (λ image left. inr (stored.each image left));
    })

pub returns-in-Err-clause-stored : goal.returns-in-Err-clause-stored
returns-in-Err-clause-stored g c = λ told held suspense tie.
    let mid = g.V.Volume.disk c.reload.new.volume in
    inl (record {
      each = c.reload.ensures.any_moment told held suspense tie;
      gone = refl;
      refused = c.refused_for.result;
      answered = refl;
      names = rw c.refused_for.ensures (names_it _ c.in-Err.refused (c.in-Err.ensures.damaged told));
      syncs = syncs_within mid (λ file is. tt) (c.reload.ensures.syncs told);
    })

full_before : (refused : LoadRefused) → refused_by refused ≡ Full → ⊥
full_before LoadStore is = let e : Store ≡ Full = is in cc
full_before (LoadDamaged damage) is = let e : Damaged damage ≡ Full = is in cc
full_before (LoadNoMemory error) is = let e : NoMemory error ≡ Full = is in cc

pub returns-in-Err-clause-loaded : goal.returns-in-Err-clause-loaded
returns-in-Err-clause-loaded g c = λ is. absurd (full_before c.in-Err.refused (sym c.refused_for.ensures ∙ same_refusal c.refused_for.result Full is))

pub returns-in-Err-clause-store : goal.returns-in-Err-clause-store
returns-in-Err-clause-store g c = λ is.
    let same : c.in-Err.refused ≡ LoadStore = store_before c.in-Err.refused (sym c.refused_for.ensures ∙ same_refusal c.refused_for.result Store is) in
    c.in-Err.ensures.store (rw same refl)

pub returns-in-Err-clause-kept : goal.returns-in-Err-clause-kept
returns-in-Err-clause-kept g c = elim c.in-Err.ensures.kept [
  | inl is ↦
      let same : c.in-Err.refused ≡ LoadStore = same_refusal c.in-Err.refused LoadStore is in
      let told : c.refused_for.result ≡ Store = c.refused_for.ensures ∙ ap refused_by same in
      inl (rw told refl)
  | inr same ↦ inr same
]

pub returns-in-Ok-clause-files : goal.returns-in-Ok-clause-files
returns-in-Ok-clause-files g c = λ told.
    let new = g.V.Volume.disk c.store_entries.new.volume in
    grew_then new (c.in-Ok.ensures.files told) (grew_within new (λ file is. inr is) (c.store_entries.ensures.files told))

pub returns-in-Ok-clause-acts : goal.returns-in-Ok-clause-acts
returns-in-Ok-clause-acts g c = λ told. record { mid = g.V.Volume.disk c.reload.new.volume; syncs = c.in-Ok.ensures.syncs told; acts = c.store_entries.ensures.files told }

pub returns-in-Err-clause-acts : goal.returns-in-Err-clause-acts
returns-in-Err-clause-acts g c = λ told. record { mid = g.V.Volume.disk c.reload.new.volume; syncs = c.reload.ensures.syncs told; acts = still }
