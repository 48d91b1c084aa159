use Rattle.std.proofs.Common.{◌≡◌, ◌∙◌, inl, inr, ℕ, ◌+◌, arith, List, [], ◌∷◌, ◌++◌, take, Some, refl, sym, ap, subst}
use Rattle.std.specs.Prelude.{slice_get}
use Rattle.std.proofs.lemmas.List.{take_more, take_all}
use Rattle.std.proofs.lemmas.List.Elements.{All-push, All-nil}
use Rattle.std.proofs.lemmas.Option.{slice_get_within, get_or_from_slice_get}
use Rattle.std.proofs.lemmas.Result.{err_from_is_err_and}
use Rattle.disk_volume.specs.Disk.{Disk}
use Rattle.keeper_entry.specs.Entry.{IsEntry}
use Rattle.keeper_channel.specs.Entries.{AreEntries}
use Rattle.keeper_channel.specs.Logs.{IsLive}
use Rattle.keeper_channel.proofs.Damages.{names_other}
use Rattle.keeper_channel.proofs.Slots.{counted}
use Rattle.keeper_channel.proofs.checking.check_entries.Goals as goal

-- the first entries of a list, and one more
one_more : (held : List (List ℕ)) (place : ℕ) (payload : List ℕ) → slice_get held place ≡ Some payload → take (place + 1) held ≡ take place held ++ payload ∷ []
one_more held place payload got =
    take_more held place payload (slice_get_within held place payload got)
    ∙ ap (λ (p : List ℕ). take place held ++ p ∷ []) (get_or_from_slice_get held place payload payload got)

pub loop-place-init : goal.loop-place-init
loop-place-init g c = record {
  so_far = λ told doubt held suspense live. All-nil IsEntry;
  disk = λ told. refl;
  follows = g.met.V.Volume.follows_itself c.args.volume.now;
  faults = refl;
}

pub loop-place-preserved : goal.loop-place-preserved
loop-place-preserved g c = record {
  so_far = λ told doubt held suspense live.
      let before = c.loop-place.invariant.so_far told doubt held suspense live in
      let here = subst (λ (d : Disk). IsLive g.O.Ledger.holds g.G.Ledger.holds doubt c.args.logs.now held suspense d) (sym (c.loop-place.invariant.disk told)) live in
      let added = c.in_ok-check_entry.ensures.entry told doubt held suspense here in
      subst AreEntries (sym (one_more held c.loop-place.place added.0 added.1)) (All-push IsEntry (take c.loop-place.place held) added.0 before added.2);
  disk = λ told. c.check_entry.ensures.disk told ∙ c.loop-place.invariant.disk told;
  follows = g.met.V.Volume.follows_on c.args.volume.now c.loop-place.volume c.check_entry.new.volume c.loop-place.invariant.follows c.check_entry.ensures.follows;
  faults = elim c.in_ok-check_entry.ensures.kept [ inl store ↦ absurd (cc) | inr same ↦ same ∙ c.loop-place.invariant.faults ];
}

pub returns-in_err-check_entry-clause-entries : goal.returns-in_err-check_entry-clause-entries
returns-in_err-check_entry-clause-entries g c = let p = err_from_is_err_and c.from_residual.result c.from_residual.ensures.1 in rw (p.1, p.2) (λ told doubt held suspense live.
    let before = c.loop-place.invariant.so_far told doubt held suspense live in
    let here = subst (λ (d : Disk). IsLive g.O.Ledger.holds g.G.Ledger.holds doubt c.args.logs.now held suspense d) (sym (c.loop-place.invariant.disk told)) live in
    names_other _ held c.loop-place.place before (λ damage is. c.in_err-check_entry.ensures.other told doubt held suspense here damage is))

pub returns-clause-entries : goal.returns-clause-entries
returns-clause-entries g c = λ told doubt held suspense live.
    let before = c.loop-place.invariant.so_far told doubt held suspense live in
    let disk = g.V.Volume.disk c.args.volume.now in
    let many = counted g.O.Ledger.holds g.G.Ledger.holds doubt g.O.Ledger.count g.G.Ledger.count c.args.logs.now c.count_entries-count.result held suspense disk
    (λ log payloads holds. g.met.O.Ledger.holds_count log payloads disk holds) (λ log payloads holds. g.met.G.Ledger.holds_count log payloads disk holds) c.count_entries-count.ensures live in
    let whole = take_all c.loop-place.place held (omega (arith, many)) in
    (many, subst AreEntries whole before)

pub check_entry-requires-clause-place : goal.check_entry-requires-clause-place
check_entry-requires-clause-place g c = (c.count_entries-count.result, c.count_entries-count.ensures, omega arith)

pub check_entry-requires-clause-holds : goal.check_entry-requires-clause-holds
check_entry-requires-clause-holds g c = λ told.
    let given = c.requires.holds told in (
      given.0,
      given.1,
      given.2,
      subst (λ (d : Disk). IsLive g.O.Ledger.holds g.G.Ledger.holds given.0 c.args.logs.now given.1 given.2 d) (sym (c.loop-place.invariant.disk told)) given.3,
    )
