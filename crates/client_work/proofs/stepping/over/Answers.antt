use Rattle.std.proofs.Common.{sym, subst}
use Rattle.pad_patch.specs.Piece.{text_after}
use Rattle.pad_patch.specs.Misfit.{CanApply}
use Rattle.pad_stroke.specs.Work.{Marked}
use Rattle.client_work.specs.Carrying.{behind, IsOnGround}
use Rattle.client_work.proofs.Grounds.{both_short, short_fits, carried_on_ground}
use Rattle.client_work.proofs.stepping.over.Goals as goal

pub through-requires-clause-sums : goal.through-requires-clause-sums
through-requires-clause-sums c =
    let ready = c.requires.1 in
    c.sums_fit_within.ensures c.args.work.now.patch c.args.step.now.patch c.requires.0.text ready.on_ground.applies ready.fits.applies
    (both_short c.requires.0.text (text_after c.args.step.now.patch c.requires.0.text) ready.on_ground.short ready.fits.short)

pub through-requires-clause-joints : goal.through-requires-clause-joints
through-requires-clause-joints c =
    let ready = c.requires.1 in
    c.joints_fit_within.ensures c.args.work.now.patch c.args.step.now.patch c.requires.0.text
    (record { is_text = ready.on_ground.is_text; patch_applies = ready.on_ground.applies; other_applies = ready.fits.applies }) c.inserts_texts.ensures
    (short_fits (text_after c.args.step.now.patch c.requires.0.text) ready.fits.short)

pub returns-clause-stands : goal.returns-clause-stands
returns-clause-stands c grounds ready =
    let through = c.in_ok-through.ensures in
    subst (λ (w : Marked). IsOnGround (behind c.args.step.now grounds) w) (sym through.carried)
    (carried_on_ground c.texts_stay_texts.ensures c.carried_whole.ensures c.carried_typed.ensures grounds c.args.step.now c.args.hash.now c.args.work.now c.inserts_texts.ensures ready
    (subst (λ (w : Marked). CanApply w.patch (text_after c.args.step.now.patch grounds.text)) through.carried
    (through.applies grounds.text (record { is_text = ready.on_ground.is_text; patch_applies = ready.on_ground.applies; other_applies = ready.fits.applies }))))
