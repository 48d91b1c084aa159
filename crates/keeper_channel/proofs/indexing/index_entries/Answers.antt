use Rattle.std.proofs.Common.{◌≡◌, ◌∙◌, inl, inr, ℕ, ◌+◌, arith, List, [], ◌∷◌, ◌++◌, take, Some, refl, sym, ap, subst}
use Rattle.std.specs.Prelude.{slice_get}
use Rattle.std.proofs.lemmas.List.{take_more, take_all}
use Rattle.std.proofs.lemmas.List.Elements.{All-push, All-nil}
use Rattle.std.proofs.lemmas.Option.{slice_get_within, get_or_from_slice_get}
use Rattle.std.proofs.lemmas.Result.{err_from_is_err_and}
use Rattle.disk_volume.specs.Disk.{Disk}
use Rattle.keeper_entry.specs.Entry.{IsEntry}
use Rattle.keeper_entry.specs.Index.{IsIndex}
use Rattle.keeper_channel.specs.Entries.{AreEntries}
use Rattle.keeper_channel.specs.Logs.{IsLive, HasCount}
use Rattle.keeper_channel.proofs.Damages.{names_other}
use Rattle.keeper_channel.proofs.Slots.{counted, few_in, few_entries}
use Rattle.keeper_channel.proofs.indexing.index_entries.Goals as goal

-- the first entries of a list, and one more
one_more : (held : List (List ℕ)) (place : ℕ) (payload : List ℕ) → slice_get held place ≡ Some payload → take (place + 1) held ≡ take place held ++ payload ∷ []
one_more held place payload got =
    take_more held place payload (slice_get_within held place payload got)
    ∙ ap (λ (p : List ℕ). take place held ++ p ∷ []) (get_or_from_slice_get held place payload payload got)

pub loop-place-init : goal.loop-place-init
loop-place-init g c = record {
  count = c.new-index.ensures.count;
  small = omega (arith, c.new-index.ensures.bytes);
  indexed = ([], c.new-index.ensures.index);
  so_far = λ told doubt held suspense live. (c.new-index.ensures.index, All-nil IsEntry);
  disk = λ told. refl;
  follows = g.met.V.Volume.follows_itself c.args.volume.now;
  faults = refl;
}

pub loop-place-preserved : goal.loop-place-preserved
loop-place-preserved g c = record {
  count = c.in_ok-add_entry.ensures.count;
  small = c.in_ok-add_entry.ensures.small;
  indexed = let before = c.loop-place.invariant.indexed in let more = c.in_ok-add_entry.ensures.indexed before.0 before.1 in (before.0 ++ more.0 ∷ [], more.1);
  so_far = λ told doubt held suspense live.
      let before = c.loop-place.invariant.so_far told doubt held suspense live in
      let here = subst (λ (d : Disk). IsLive g.O.Ledger.holds g.G.Ledger.holds doubt c.args.logs.now held suspense d) (sym (c.loop-place.invariant.disk told)) live in
      let added = c.in_ok-add_entry.ensures.added told doubt held suspense (take c.loop-place.place held) here before.0 in
      let more = sym (one_more held c.loop-place.place added.0 added.1) in (
        subst (IsIndex c.add_entry.new.index) more added.2,
        subst AreEntries more (All-push IsEntry (take c.loop-place.place held) added.0 before.1 added.3),
      );
  disk = λ told. c.add_entry.ensures.disk told ∙ c.loop-place.invariant.disk told;
  follows = g.met.V.Volume.follows_on c.args.volume.now c.loop-place.volume c.add_entry.new.volume c.loop-place.invariant.follows c.add_entry.ensures.follows;
  faults = elim c.in_ok-add_entry.ensures.kept [ inl store ↦ absurd (cc) | inr same ↦ same ∙ c.loop-place.invariant.faults ];
}

pub returns-in_err-add_entry-clause-index : goal.returns-in_err-add_entry-clause-index
returns-in_err-add_entry-clause-index g c = let p = err_from_is_err_and c.from_residual.result c.from_residual.ensures.1 in rw (p.1, p.2) (λ told doubt held suspense live.
    let before = c.loop-place.invariant.so_far told doubt held suspense live in
    let here = subst (λ (d : Disk). IsLive g.O.Ledger.holds g.G.Ledger.holds doubt c.args.logs.now held suspense d) (sym (c.loop-place.invariant.disk told)) live in
    names_other _ held c.loop-place.place before.1 (λ damage is. c.in_err-add_entry.ensures.other told doubt held suspense here damage is))

pub returns-clause-index : goal.returns-clause-index
returns-clause-index g c = λ told doubt held suspense live.
    let before = c.loop-place.invariant.so_far told doubt held suspense live in
    let disk = g.V.Volume.disk c.args.volume.now in
    let many = counted g.O.Ledger.holds g.G.Ledger.holds doubt g.O.Ledger.count g.G.Ledger.count c.args.logs.now c.count_entries-place-end.result held suspense disk
    (λ log payloads holds. g.met.O.Ledger.holds_count log payloads disk holds) (λ log payloads holds. g.met.G.Ledger.holds_count log payloads disk holds) c.count_entries-place-end.ensures live in
    let whole = take_all c.loop-place.place held (omega (arith, many)) in
    (subst (IsIndex c.loop-place.index) whole before.0, subst AreEntries whole before.1)

pub returns-clause-counted : goal.returns-clause-counted
returns-clause-counted g c =
    let same : c.count_entries-place-end.result ≡ c.loop-place.index.count = omega (arith, c.loop-place.invariant.count) in
    subst (λ n. HasCount g.O.Ledger.count g.G.Ledger.count c.args.logs.now n) same c.count_entries-place-end.ensures

pub add_entry-requires-clause-place : goal.add_entry-requires-clause-place
add_entry-requires-clause-place g c = (c.count_entries-place-end.result, c.count_entries-place-end.ensures, omega arith)

pub add_entry-requires-clause-few : goal.add_entry-requires-clause-few
add_entry-requires-clause-few g c =
    let most = few_in g.O.Ledger.count g.G.Ledger.count c.args.logs.now c.count_entries-place-end.result 1048577
    (λ log. omega (arith, g.met.O.Ledger.count_few log, few_entries (g.O.Ledger.form_of log))) (λ log. omega (arith, g.met.G.Ledger.count_few log, few_entries (g.G.Ledger.form_of log))) c.count_entries-place-end.ensures in
    omega (arith, most)

pub add_entry-requires-clause-holds : goal.add_entry-requires-clause-holds
add_entry-requires-clause-holds g c = λ told.
    let given = c.requires.holds told in (
      given.0,
      given.1,
      given.2,
      subst (λ (d : Disk). IsLive g.O.Ledger.holds g.G.Ledger.holds given.0 c.args.logs.now given.1 given.2 d) (sym (c.loop-place.invariant.disk told)) given.3,
    )
