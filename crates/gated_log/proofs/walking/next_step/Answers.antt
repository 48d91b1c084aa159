use Rattle.std.proofs.Common.{length, refl, arith}
use Rattle.std.proofs.lemmas.Result.{IfOk-weaker}
use Rattle.gated_log.specs.declared.walk.Walk.{Walk}
use Rattle.gated_log.specs.Inside.Walked.{IsAhead}
use Rattle.gated_log.proofs.Walks.{ahead_on}
use Rattle.gated_log.proofs.walking.next_step.Goals as goal

pub returns-clause-ahead : goal.returns-clause-ahead
returns-clause-ahead c =
    let inner : Walk = record { before = c.args.walk.before; gate = c.args.walk.gate; end = c.end_seen-end.result } in
    IfOk-weaker c.go_over.result _ (IsAhead c.args.walk c.args.buffer)
    (λ step ahead. ahead_on c.args.walk inner (length c.args.piece.now) c.args.buffer step refl c.end_seen-end.ensures.within (omega (arith, c.requires.within)) c.requires.buffer c.end_seen-end.ensures.short ahead)
    c.go_over.ensures.ahead
