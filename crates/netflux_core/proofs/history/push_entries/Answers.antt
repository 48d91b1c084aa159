use Rattle.std.proofs.Common.{◌∙◌, inr, ◌≤◌, ◌<◌, [], ◌∷◌, ◌++◌, length, refl, sym, arith}
use Rattle.std.proofs.lemmas.Result.{err_from_is_err_and}
use Rattle.std.proofs.lemmas.List.{append-nil, length-append}
use Rattle.keeper_state.specs.State.{live}
use Rattle.netflux_core.specs.Histories.{channel_of}
use Rattle.netflux_core.proofs.Failing.{ok_kept, kept_on}
use Rattle.netflux_core.proofs.Changing.{none_changes, now_then, seen_live, seen_refused}
use Rattle.netflux_core.proofs.Telling.{told_all, one_more}
use Rattle.netflux_core.proofs.history.push_entries.Goals as goal

pub loop-index-init : goal.loop-index-init
loop-index-init g c = record {
  so_far = λ told channels held suspense kept is. (refl, record { now = channels; changes = none_changes channels (channel_of c.args.ask.now) held suspense is; kept = kept });
  entries = λ other has. has;
  sound = c.requires.sound;
  cost = ([], sym (append-nil c.args.outs.now.items), omega arith);
  disk = λ told. refl;
  follows = g.met.V.Volume.follows_itself c.args.volume.now;
  kept = refl;
  later = omega arith;
}

pub push_entry-requires-clause-loaded : goal.push_entry-requires-clause-loaded
push_entry-requires-clause-loaded g c =
    let within : c.loop-index.index < c.args.total = omega arith in
    c.loop-index.invariant.entries c.loop-index.index (c.requires.entries c.loop-index.index within).0

pub push_entry-requires-clause-few : goal.push_entry-requires-clause-few
push_entry-requires-clause-few g c = let within : c.loop-index.index < c.args.total = omega arith in (c.requires.entries c.loop-index.index within).1

pub push_entry-requires-clause-tie : goal.push_entry-requires-clause-tie
push_entry-requires-clause-tie g c = λ told.
    let tie = c.requires.tie told in
    let here = c.loop-index.invariant.so_far told tie.channels tie.held tie.suspense tie.kept tie.is_live in
    record { channels = here.1.now; held = tie.held; suspense = tie.suspense; kept = here.1.kept; is_live = here.1.changes.this }

pub loop-index-preserved : goal.loop-index-preserved
loop-index-preserved g c = record {
  so_far = λ told channels held suspense kept is.
      let K = g.K.Keep in let V = g.V.Volume in
      let before = c.loop-index.invariant.so_far told channels held suspense kept is in
      let pushed = c.in_ok-push_entry.ensures.pushed told before.1.now held suspense before.1.kept before.1.changes.this in
      (pushed.0 ∙ before.0, now_then (K.keeps c.push_entry.new.keeper) channels before.1.now (channel_of c.args.ask.now) held suspense (live held suspense) (V.disk c.push_entry.new.volume) seen_live before.1.changes pushed.1);
  entries = λ other has. c.in_ok-push_entry.ensures.entries other (c.loop-index.invariant.entries other has);
  sound = c.push_entry.ensures.sound;
  cost =
      let before = c.loop-index.invariant.cost in let one = c.in_ok-push_entry.ensures.one in (
        before.0 ++ one.0 ∷ [],
        one_more c.args.identity.now c.args.number c.args.ask.now [] before.0 one.0 c.args.outs.now.items c.loop-index.outs.items c.push_entry.new.outs.items before.1 one.1,
        omega (arith, before.2, c.push_entry.ensures.clock, length-append before.0 (one.0 ∷ [])),
      );
  disk = λ told. c.push_entry.ensures.disk told ∙ c.loop-index.invariant.disk told;
  follows = g.met.V.Volume.follows_on c.args.volume.now c.loop-index.volume c.push_entry.new.volume c.loop-index.invariant.follows c.push_entry.ensures.follows;
  kept = ok_kept _ _ c.in_ok-push_entry.ensures.kept ∙ c.loop-index.invariant.kept;
  later = omega (arith, c.loop-index.invariant.later, c.push_entry.ensures.later);
}

pub returns-clause-pushed : goal.returns-clause-pushed
returns-clause-pushed g c = λ told channels held suspense kept is whole.
    let end = c.loop-index.invariant.so_far told channels held suspense kept is in
    let past : length held ≤ c.loop-index.index = omega (arith, whole) in
    (told_all c.args.identity.now c.args.number c.args.ask.now held c.loop-index.index c.args.start c.args.outs.now.items c.loop-index.outs.items past end.0, end.1)

pub returns-in_err-push_entry-clause-pushed : goal.returns-in_err-push_entry-clause-pushed
returns-in_err-push_entry-clause-pushed g c = λ told channels held suspense kept is whole.
    let K = g.K.Keep in let V = g.V.Volume in
    let before = c.loop-index.invariant.so_far told channels held suspense kept is in
    let lost = c.in_err-push_entry.ensures.pushed told before.1.now held suspense before.1.kept before.1.changes.this in
    let p = err_from_is_err_and c.from_residual.result c.from_residual.ensures.1 in rw (p.1, p.2)
    (lost.0, lost.1, now_then (K.keeps c.push_entry.new.keeper) channels before.1.now (channel_of c.args.ask.now) held suspense lost.0 (V.disk c.push_entry.new.volume) (seen_refused held suspense _ lost.0 lost.1) before.1.changes lost.2)

pub returns-clause-kept : goal.returns-clause-kept
returns-clause-kept g c = inr c.loop-index.invariant.kept

pub returns-in_err-push_entry-clause-kept : goal.returns-in_err-push_entry-clause-kept
returns-in_err-push_entry-clause-kept g c =
    let p = err_from_is_err_and c.from_residual.result c.from_residual.ensures.1 in rw (p.1, p.2) (kept_on c.in_err-push_entry.ensures.kept c.loop-index.invariant.kept)
