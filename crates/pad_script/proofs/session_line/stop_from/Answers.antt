use Rattle.std.proofs.Common.{◌≡◌, List, ℕ, ◌++◌, ap, ◌∙◌, arith}
use Rattle.std.specs.Prelude.{codes}
use Rattle.pad_script.specs.Parts.{spaced}
use Rattle.pad_script.specs.SessionAct.{pick_words}
use Rattle.pad_script.proofs.Fronts.{behind_is, stop_words}
use Rattle.pad_script.proofs.session_line.stop_from.Goals as goal

pub returns-in-None-clause-none : goal.returns-in-None-clause-none
returns-in-None-clause-none c call pick spells =
    let written = spells.0 ∙ ap (λ (rest : List ℕ). codes "stop " ++ rest) (stop_words call pick) in
    let same : c.in_ok-call.pick.now ≡ spaced (pick_words pick) =
    behind_is c.args.line.now (codes "stop ") c.in_ok-behind.field-0.now c.in_ok-call.call call c.in_ok-call.pick.now (spaced (pick_words pick)) c.in_ok-behind.ensures
    c.in_ok-call.ensures.some.0 written (omega (arith, c.in_ok-call.ensures.some.2)) (omega (arith, spells.2)) in
    c.in-None.ensures.none pick spells.3 same
