use Rattle.std.proofs.Common.{sym, ◌∙◌, ap, subst}
use Rattle.std.specs.Option.{option_copied}
use Rattle.std.proofs.lemmas.Result.{on_ok_weaker}
use Rattle.pad_patch.specs.Piece.{text_after}
use Rattle.pad_message.specs.Kind.{is_checkpoint}
use Rattle.pad_stroke.specs.InTurn.{in_turn}
use Rattle.client_work.proofs.Grounds.{ground_stays, checkpoint_leaves, own_of, takes_of, taken_own, taken_other}
use Rattle.client_work.proofs.stepping.go_back.Goals as goal

pub returns-then-is_checkpoint-clause-back : goal.returns-then-is_checkpoint-clause-back
returns-then-is_checkpoint-clause-back c grounds ready long inverse =
    checkpoint_leaves (is_checkpoint c.args.step.now.kind) c.args.work.now _ (sym c.is_checkpoint.ensures ∙ c.if-is_checkpoint.true)

pub returns-then-is_checkpoint-clause-stands : goal.returns-then-is_checkpoint-clause-stands
returns-then-is_checkpoint-clause-stands c grounds ready long =
    ground_stays c.args.step.now grounds c.args.work.now (ready.ready.fits.whole (sym c.is_checkpoint.ensures ∙ c.if-is_checkpoint.true)) ready.ready.on_ground

pub back_over_own-requires : goal.back_over_own-requires
back_over_own-requires c =
    (c.requires.0, c.requires.1.ready, own_of c.requires.0 (option_copied c.args.own) c.in-Some.own.now (ap option_copied c.in-Some.is) c.requires.1.carried, c.requires.2)

pub over-requires : goal.over-requires
over-requires c = (c.requires.0, c.requires.1.ready)

pub returns-in-Some-clause-back : goal.returns-in-Some-clause-back
returns-in-Some-clause-back c =
    let is = ap option_copied c.in-Some.is in
    on_ok_weaker c.back_over_own.result
    (λ same grounds ready long inverse.
    taken_own (is_checkpoint c.args.step.now.kind) (option_copied c.args.own) c.in-Some.own.now c.args.step.now (text_after c.args.step.now.patch grounds.text) c.args.size c.args.work.now c.back_over_own.new.work
    (sym c.is_checkpoint.ensures ∙ c.if-is_checkpoint.false) is long
    (same grounds ready.ready long (takes_of c.args.step.now grounds.text (option_copied c.args.own) c.in-Some.own.now is inverse)))
    c.back_over_own.ensures.back

pub returns-in-Some-clause-stands : goal.returns-in-Some-clause-stands
returns-in-Some-clause-stands c =
    on_ok_weaker c.back_over_own.result
    (λ stays grounds ready long. stays grounds ready.ready (own_of grounds (option_copied c.args.own) c.in-Some.own.now (ap option_copied c.in-Some.is) ready.carried) long)
    c.back_over_own.ensures.stands

pub returns-in-None-clause-back : goal.returns-in-None-clause-back
returns-in-None-clause-back c =
    on_ok_weaker c.over.result
    (λ same grounds ready long inverse.
    taken_other (is_checkpoint c.args.step.now.kind) (option_copied c.args.own) c.args.step.now (text_after c.args.step.now.patch grounds.text) c.args.hash.now c.args.work.now c.over.new.work
    (sym c.is_checkpoint.ensures ∙ c.if-is_checkpoint.false) (ap option_copied c.in-None.is) ready.ready.after same)
    c.over.ensures.carried

pub returns-in-None-clause-stands : goal.returns-in-None-clause-stands
returns-in-None-clause-stands c = on_ok_weaker c.over.result (λ stays grounds ready long. stays grounds ready.ready) c.over.ensures.stands
