use Rattle.std.proofs.Common.{sym, ◌∙◌, subst, ap}
use Rattle.pad_patch.specs.Piece.{text_after}
use Rattle.pad_patch.specs.Misfit.{CanApply}
use Rattle.pad_stroke.specs.Work.{Marked}
use Rattle.client_work.specs.Carrying.{behind, IsOnGround}
use Rattle.client_work.proofs.Grounds.{size_fits, turn_on_ground}
use Rattle.client_work.proofs.stepping.merge_back.Goals as goal

pub take_back-requires-clause-small : goal.take_back-requires-clause-small
take_back-requires-clause-small c = size_fits c.args.size (text_after c.args.step.now.patch c.requires.0.text) c.requires.1.long c.requires.1.fits.short

pub returns-clause-stands : goal.returns-clause-stands
returns-clause-stands c grounds merges =
    let back = c.in_ok-take_back.ensures in
    subst (λ (w : Marked). IsOnGround (behind c.args.step.now grounds) w) (sym back.taken_back)
    (turn_on_ground c.texts_stay_texts.ensures c.taken_back_applies.ensures c.turn_whole.ensures c.turn_typed.ensures c.marks_come_from_either.ensures grounds c.args.own.now c.args.step.now
    c.args.size c.args.work.now c.inserts_texts.ensures merges
    (λ text long first second. subst (λ (w : Marked). CanApply w.patch text) back.taken_back (back.applies text long first second)))
