use Rattle.std.proofs.Common.{sym, ◌∙◌, ap, subst}
use Rattle.std.specs.Option.{option_copied}
use Rattle.std.proofs.lemmas.Result.{on_ok_weaker}
use Rattle.pad_message.specs.Kind.{is_checkpoint}
use Rattle.client_work.proofs.Grounds.{ground_stays, checkpoint_leaves, own_of, came_own, came_other}
use Rattle.client_work.proofs.stepping.go_on.Goals as goal

pub returns-then-is_checkpoint-clause-on : goal.returns-then-is_checkpoint-clause-on
returns-then-is_checkpoint-clause-on c grounds ready =
    checkpoint_leaves (is_checkpoint c.args.step.now.kind) c.args.work.now _ (sym c.is_checkpoint.ensures ∙ c.if-is_checkpoint.true)

pub returns-then-is_checkpoint-clause-stands : goal.returns-then-is_checkpoint-clause-stands
returns-then-is_checkpoint-clause-stands c grounds ready =
    ground_stays c.args.step.now grounds c.args.work.now (ready.ready.fits.whole (sym c.is_checkpoint.ensures ∙ c.if-is_checkpoint.true)) ready.ready.on_ground

pub without-requires : goal.without-requires
without-requires c =
    (c.requires.0, c.requires.1.ready.on_ground.own, own_of c.requires.0 (option_copied c.args.own) c.in-Some.own.now (ap option_copied c.in-Some.is) c.requires.1.carried)

pub over-requires : goal.over-requires
over-requires c =
    let ready = c.requires.1.ready in (
      c.requires.0,
      record {
        fits = ready.fits;
        after = ready.after;
        on_ground = c.without.ensures.stands c.requires.0 ready.on_ground (own_of c.requires.0 (option_copied c.args.own) c.in-Some.own.now (ap option_copied c.in-Some.is) c.requires.1.carried);
      },
    )

pub over-requires-in-None : goal.over-requires-in-None
over-requires-in-None c = (c.requires.0, c.requires.1.ready)

pub returns-in-Some-clause-on : goal.returns-in-Some-clause-on
returns-in-Some-clause-on c =
    on_ok_weaker c.over.result
    (λ same grounds ready.
    came_own (is_checkpoint c.args.step.now.kind) (option_copied c.args.own) c.in-Some.own.now c.args.step.now c.args.hash.now c.args.work.now c.without.new.work c.over.new.work
    (sym c.is_checkpoint.ensures ∙ c.if-is_checkpoint.false) (ap option_copied c.in-Some.is) c.without.ensures.stripped same)
    c.over.ensures.carried

pub returns-in-Some-clause-stands : goal.returns-in-Some-clause-stands
returns-in-Some-clause-stands c =
    on_ok_weaker c.over.result
    (λ stays grounds ready. stays grounds (record {
      fits = ready.ready.fits;
      after = ready.ready.after;
      on_ground = c.without.ensures.stands grounds ready.ready.on_ground (own_of grounds (option_copied c.args.own) c.in-Some.own.now (ap option_copied c.in-Some.is) ready.carried);
    }))
    c.over.ensures.stands

pub returns-in-None-clause-on : goal.returns-in-None-clause-on
returns-in-None-clause-on c =
    on_ok_weaker c.over-in-None.result
    (λ same grounds ready.
    came_other (is_checkpoint c.args.step.now.kind) (option_copied c.args.own) c.args.step.now c.args.hash.now c.args.work.now c.over-in-None.new.work
    (sym c.is_checkpoint.ensures ∙ c.if-is_checkpoint.false) (ap option_copied c.in-None.is) same)
    c.over-in-None.ensures.carried

pub returns-in-None-clause-stands : goal.returns-in-None-clause-stands
returns-in-None-clause-stands c = on_ok_weaker c.over-in-None.result (λ stays grounds ready. stays grounds ready.ready) c.over-in-None.ensures.stands
