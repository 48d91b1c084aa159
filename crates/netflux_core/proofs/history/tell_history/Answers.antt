use Rattle.std.proofs.Common.{inr}
use Rattle.netflux_core.proofs.Failing.{ok_kept}
use Rattle.netflux_core.proofs.Telling.{told_whole}
use Rattle.netflux_core.proofs.history.tell_history.Goals as goal

pub returns-in-Ok-push_one-clause-told : goal.returns-in-Ok-push_one-clause-told
returns-in-Ok-push_one-clause-told g c = λ told channels held suspense kept is spanned.
    let pushed = c.in-Ok-push_span.ensures.pushed told channels held suspense kept is spanned in (
      told_whole c.args.identity.now c.args.number c.args.seq c.args.ask.now held c.args.span c.end_of.result c.in-Ok.outs.items c.push_span.new.outs.items c.push_one.new.outs.items
          c.in-Ok.ensures pushed.0 c.in-Ok-push_one.ensures c.end_of.ensures.reply spanned,
      pushed.1,
    )

pub returns-in-Ok-push_one-clause-kept : goal.returns-in-Ok-push_one-clause-kept
returns-in-Ok-push_one-clause-kept g c = inr (ok_kept _ _ c.in-Ok-push_span.ensures.kept)
