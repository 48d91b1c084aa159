use Rattle.std.proofs.Common.{◌≡◌, ◌⊎◌, inr, rules, List, [], ◌∷◌, ◌++◌, refl, sym, subst}
use Rattle.disk_volume.specs.Moments.{still}
use Rattle.disk_volume.specs.Lemmas.Since.{grew_then}
use Rattle.serve_loop.specs.declared.out.Out.{Out}
use Rattle.netflux_core.specs.Runs.{Runs, begins, goes_on}
use Rattle.netflux_core.specs.Words.{HasStoreError}
use Rattle.netflux_core.proofs.Failing.{kept_more}
use Rattle.netflux_core.proofs.hub.Hub.run.Goals as goal

pub loop-moment-init : goal.loop-moment-init
loop-moment-init g c = record {
  so_far = λ told identities first state stands. (state, subst (λ (l : List (List Out)). Runs g.K.Keep.logs identities state [] l state) (sym c.new-outputs.ensures.items) begins, stands);
  files = λ told. still;
  whole = c.requires.whole;
  sound = c.requires.sound;
  tie = c.requires.tie;
  kept = inr refl;
  follows = g.met.V.Volume.follows_itself c.args.volume.now;
  later = search rules;
}

pub loop-moment-preserved : goal.loop-moment-preserved
loop-moment-preserved g c = record {
  so_far = λ told identities first state stands.
      let K = g.K.Keep in
      let before = c.loop-moment.invariant.so_far told identities first state stands in
      let step = c.in_ok-outs.ensures.step told identities first before.0 before.2 in (
        step.0,
        subst (λ (l : List (List Out)). Runs K.logs identities state (c.loop-moment.yielded ++ (c.in-Some.moment, c.in-Some.event) ∷ []) l step.0) (sym c.in_ok-push.ensures.items)
            (goes_on c.loop-moment.yielded c.loop-moment.outputs.items c.in-Some.moment c.in-Some.event c.in_ok-outs.outs before.1 step.1),
        step.2,
      );
  files = λ told. grew_then (g.V.Volume.disk c.step.new.volume) (c.loop-moment.invariant.files told) (c.step.ensures.files told);
  whole = (c.in_ok-outs.ensures.served).whole;
  sound = c.in_ok-outs.ensures.sound;
  tie = λ told. c.in_ok-outs.ensures.tie told;
  kept =
      let V = g.V.Volume in
      subst (λ (l : List (List Out)). HasStoreError l ⊎ (V.faults c.step.new.volume ≡ V.faults c.args.volume.now)) (sym c.in_ok-push.ensures.items)
      (kept_more c.loop-moment.outputs.items c.in_ok-outs.outs (V.faults c.args.volume.now) (V.faults c.loop-moment.volume) (V.faults c.step.new.volume) c.loop-moment.invariant.kept c.in_ok-outs.ensures.kept);
  follows = g.met.V.Volume.follows_on c.args.volume.now c.loop-moment.volume c.step.new.volume c.loop-moment.invariant.follows c.step.ensures.follows;
  later = search rules;
}

pub returns-in_err-outs-clause-files : goal.returns-in_err-outs-clause-files
returns-in_err-outs-clause-files g c = λ told. grew_then (g.V.Volume.disk c.step.new.volume) (c.loop-moment.invariant.files told) (c.step.ensures.files told)

pub returns-in_err-push-clause-files : goal.returns-in_err-push-clause-files
returns-in_err-push-clause-files g c = λ told. grew_then (g.V.Volume.disk c.step.new.volume) (c.loop-moment.invariant.files told) (c.step.ensures.files told)
