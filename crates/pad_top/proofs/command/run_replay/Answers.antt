-- A replay that a failed write cut short.
use Rattle.std.proofs.Common.{◌≡◌, IfSome, refl, sym, subst}
use Rattle.pad_edge.specs.Count.{Rose}
use Rattle.pad_top.specs.Replay.{IsReplayed}
use Rattle.pad_top.specs.Run.{Ends}
use Rattle.pad_top.specs.Inside.Ending.{fixed_line}
use Rattle.pad_top.proofs.Ending.{refusal_ends, cut_short}
use Rattle.pad_top.proofs.command.run_replay.Goals as goal

pub returns-in-Ok-clause-part : goal.returns-in-Ok-clause-part
returns-in-Ok-clause-part g c words is =
    cut_short _ _ _ _ _ _ _ _ _ c.end.ensures.end (
      is,
      subst (λ text. IfSome (g.I.Source.left c.args.input.now) (λ bytes. IsReplayed bytes text)) (sym c.as_bytes.ensures.value) c.in-Ok.ensures.report,
    )

pub returns-in-Err-clause-part : goal.returns-in-Err-clause-part
returns-in-Err-clause-part g c words is =
    let left = g.I.Source.left c.args.input.now in
    let failed = Rose (g.I.Source.faults c.args.input.now) (g.I.Source.faults c.replay.new.input) in
    let ends = refusal_ends words left failed c.in-Err.refused is c.in-Err.ensures.refused in
    let at_status = subst (λ status. Ends words left failed status (fixed_line status)) (sym c.status-status.ensures) ends in
    cut_short _ _ _ _ _ _ _ _ _ c.end-in-Err.ensures.end (subst (Ends words left failed c.status-status.result) (sym c.line.ensures) at_status)
