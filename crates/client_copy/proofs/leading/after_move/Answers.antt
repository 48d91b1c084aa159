use Rattle.std.proofs.Common.{true≢false, refl, sym, ◌∙◌}
use Rattle.client_copy.proofs.LeftMoves.{move_fits, fits_of}
use Rattle.client_copy.proofs.leading.after_move.Goals as goal
use Rattle.client_copy.proofs.leading.after_move.Goals.{else-is_checkpoint-via-then-is_checkpoint+else-not-is_same_text, else-is_checkpoint-via-else-is_checkpoint}

pub returns-in_default-clause-none : goal.returns-in_default-clause-none
returns-in_default-clause-none g c fits = true≢false (sym (c.in_default.ensures.fits.1 (fits_of c.args.step.now (g.S.UnitStore.units c.args.text.now) fits)))

pub returns-clause-some : goal.returns-clause-some
returns-clause-some g c =
    let after = c.in_ok-after.ensures.after in (
      move_fits c.args.step.now (g.S.UnitStore.units c.args.text.now) c.in-Ok.ensures.applies (c.in-Ok.ensures.fits.0 refl)
          (elim c.else-is_checkpoint.branch [
            | else-is_checkpoint-via-then-is_checkpoint+else-not-is_same_text w ↦ λ checkpoint. sym after ∙ w.is_same_text.ensures.0 w.if-not-is_same_text.false
            | else-is_checkpoint-via-else-is_checkpoint w ↦ λ checkpoint. absurd (true≢false (sym checkpoint ∙ sym c.is_checkpoint.ensures ∙ w.if-is_checkpoint.false))
          ]),
      after,
    )
