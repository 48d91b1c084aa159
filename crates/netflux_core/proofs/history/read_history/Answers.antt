use Rattle.std.proofs.Common.{inl}
use Rattle.netflux_core.proofs.Asking.{read_ends}
use Rattle.netflux_core.proofs.Failing.{ok_kept, err_kept, kept_on}
use Rattle.netflux_core.proofs.history.read_history.Goals as goal

pub returns-in-Ok-clause-told : goal.returns-in-Ok-clause-told
returns-in-Ok-clause-told g c = λ told channels kept.
    let V = g.V.Volume in let K = g.K.Keep in
    let spanned = c.in-Ok.ensures.spanned told channels kept in
    read_ends (λ outs. outs.items) K.logs (K.keeps c.find_span.new.self) (K.keeps c.tell_history.new.keeper) channels c.args.identity.now c.args.number c.args.seq c.args.ask.now
    (V.disk c.args.volume.now) (V.disk c.find_span.new.volume) (V.disk c.tell_history.new.volume) c.in-Ok.span spanned.0 spanned.1 spanned.2 spanned.3 (c.tell_history.ensures.disk told) c.tell_history.result
    (λ held suspense is spans. c.tell_history.ensures.told told spanned.2.now held suspense spanned.2.kept is spans)

pub returns-in-Err-clause-told : goal.returns-in-Err-clause-told
returns-in-Err-clause-told g c = λ told channels kept.
    let spanned = c.in-Err.ensures.spanned told channels kept in
    (spanned.0, inl spanned.1, spanned.2, spanned.3)

pub returns-in-Ok-clause-kept : goal.returns-in-Ok-clause-kept
returns-in-Ok-clause-kept g c = kept_on c.tell_history.ensures.kept (ok_kept _ c.in-Ok.span c.in-Ok.ensures.kept)

pub returns-in-Err-clause-kept : goal.returns-in-Err-clause-kept
returns-in-Err-clause-kept g c = err_kept _ c.in-Err.why c.in-Err.ensures.kept
