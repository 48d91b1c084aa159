use Rattle.std.proofs.Common.{◌∙◌, inl, inr, ℕ, ◌+◌, List, [], ◌∷◌, ◌++◌, length, drop, refl, sym, ap, subst}
use Rattle.std.proofs.lemmas.List.{length-append}
use Rattle.std.proofs.lemmas.List.Elements.{All-push, All-nil}
use Rattle.std.proofs.lemmas.Result.{err_from_is_err_and}
use Rattle.disk_volume.specs.Disk.{Disk}
use Rattle.keeper_entry.specs.Entry.{IsEntry}
use Rattle.keeper_channel.specs.Chan.{moved, at_moment_zero}
use Rattle.keeper_channel.specs.Entries.{AreEntries}
use Rattle.keeper_channel.proofs.Chans.{get_drop, moved_more, moved_get, entry_at}
use Rattle.keeper_channel.specs.declared.refused.KeeperRefused.TheVariants.{Damaged}
use Rattle.keeper_channel.proofs.Results.{err_of}
use Rattle.keeper_channel.proofs.moving.read_group.Goals as goal

pub loop-place-init : goal.loop-place-init
loop-place-init g c = record {
  many = ap (λ (l : List (List ℕ)). length l) c.new-entries.ensures.items;
  entries = subst AreEntries (sym c.new-entries.ensures.items) (All-nil IsEntry);
  group = λ told old holds. c.new-entries.ensures.items;
  disk = λ told. refl;
  follows = g.met.V.Volume.follows_itself c.args.volume.now;
  faults = refl;
}

pub loop-place-preserved : goal.loop-place-preserved
loop-place-preserved g c =
    let before = c.loop-place.entries.items in
    let more = c.in_ok-push_moved.ensures.pushed in
    record {
      many = ap (λ (l : List (List ℕ)). length l) more.2 ∙ length-append before (more.0 ∷ []) ∙ ap (λ n. n + 1) c.loop-place.invariant.many;
      entries = subst AreEntries (sym more.2) (All-push IsEntry before more.0 c.loop-place.invariant.entries more.1);
      group = λ told old holds.
          let here = subst (λ (d : Disk). g.O.Ledger.holds c.args.one.now old d) (sym (c.loop-place.invariant.disk told)) holds in
          let got = c.in_ok-push_moved.ensures.moved told old here in
          got.2 ∙ ap (λ (l : List (List ℕ)). l ++ at_moment_zero got.0 ∷ []) (c.loop-place.invariant.group told old holds)
          ∙ moved_more (drop c.args.first old) c.loop-place.place got.0 (get_drop old c.args.first c.loop-place.place ∙ got.1);
      disk = λ told. c.push_moved.ensures.disk told ∙ c.loop-place.invariant.disk told;
      follows = g.met.V.Volume.follows_on c.args.volume.now c.loop-place.volume c.push_moved.new.volume c.loop-place.invariant.follows c.push_moved.ensures.follows;
      faults = elim c.in_ok-push_moved.ensures.kept [ inl store ↦ absurd (cc) | inr same ↦ same ∙ c.loop-place.invariant.faults ];
    }

pub push_moved-requires-clause-holds : goal.push_moved-requires-clause-holds
push_moved-requires-clause-holds g c = λ told.
    let given = c.requires.holds told in
    (given.0, subst (λ (d : Disk). g.O.Ledger.holds c.args.one.now given.0 d) (sym (c.loop-place.invariant.disk told)) given.1)

pub returns-in_err-push_moved-clause-damaged : goal.returns-in_err-push_moved-clause-damaged
returns-in_err-push_moved-clause-damaged g c = let p = err_from_is_err_and c.from_residual.result c.from_residual.ensures.1 in rw (p.1, p.2) (λ told old holds damage is all.
    let here = subst (λ (d : Disk). g.O.Ledger.holds c.args.one.now old d) (sym (c.loop-place.invariant.disk told)) holds in
    let found = c.in_err-push_moved.ensures.damaged told old here damage (err_of _ (Damaged damage) is) in
    found.2 (entry_at (moved old) (c.args.first + c.loop-place.place) (at_moment_zero found.0) all (moved_get old (c.args.first + c.loop-place.place) found.0 found.1)))
