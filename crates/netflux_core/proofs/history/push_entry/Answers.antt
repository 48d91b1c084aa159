use Rattle.std.proofs.Common.{◌∙◌, inr, ◌++◌, ◌∷◌, [], refl, sym, ap, subst}
use Rattle.keeper_state.specs.State.{State, live}
use Rattle.netflux_core.specs.Channels.{IsNow}
use Rattle.netflux_core.specs.Histories.{channel_of}
use Rattle.netflux_codec.specs.Reply.{HasSmallCounts}
use Rattle.netflux_codec.specs.declared.reply.Reply.{Reply}
use Rattle.netflux_rooms.specs.Rooms.{tell}
use Rattle.netflux_core.proofs.Failing.{ok_kept}
use Rattle.netflux_core.proofs.Telling.{small_entry, pushed_more, at_index}
use Rattle.netflux_core.proofs.history.push_entry.Goals as goal

pub push_one-requires : goal.push_one-requires
push_one-requires g c = subst (λ (r : Reply). HasSmallCounts r) (sym c.reply_of-reply.ensures) (small_entry c.args.identity.now c.args.ask.now c.args.index c.in-Ok.entry c.requires.few)

pub returns-in-Ok-push_one-clause-pushed : goal.returns-in-Ok-push_one-clause-pushed
returns-in-Ok-push_one-clause-pushed g c = λ told channels held suspense kept is.
    let K = g.K.Keep in let V = g.V.Volume in
    let got = c.in-Ok.ensures.got told channels held suspense kept is in (
      pushed_more c.args.identity.now c.args.number c.args.ask.now held c.args.index got.1.0 c.in-Ok.entry c.reply_of-reply.result c.args.outs.now.items c.push_one.new.outs.items
          c.in-Ok-push_one.ensures c.reply_of-reply.ensures got.1.2 got.1.1,
      subst (λ (s : State). IsNow (K.keeps c.entry_for.new.self) channels (channel_of c.args.ask.now) s (V.disk c.entry_for.new.volume)) got.1.3 got.2,
    )

pub returns-in-Ok-push_one-clause-one : goal.returns-in-Ok-push_one-clause-one
returns-in-Ok-push_one-clause-one g c = (
  record c.in-Ok.entry { index = c.args.index },
  c.in-Ok-push_one.ensures ∙ ap (λ (r : Reply). c.args.outs.now.items ++ tell c.args.number r ∷ []) (c.reply_of-reply.ensures ∙ at_index c.args.identity.now c.args.ask.now c.args.index c.in-Ok.entry),
)

pub returns-in-Ok-clause-pushed : goal.returns-in-Ok-clause-pushed
returns-in-Ok-clause-pushed g c = λ told channels held suspense kept is.
    let K = g.K.Keep in let V = g.V.Volume in
    let got = c.in-Ok.ensures.got told channels held suspense kept is in
    (live held suspense, refl, subst (λ (s : State). IsNow (K.keeps c.entry_for.new.self) channels (channel_of c.args.ask.now) s (V.disk c.entry_for.new.volume)) got.1.3 got.2)

pub returns-in-Ok-push_one-clause-kept : goal.returns-in-Ok-push_one-clause-kept
returns-in-Ok-push_one-clause-kept g c = inr (ok_kept _ c.in-Ok.entry c.in-Ok.ensures.kept)

pub returns-in-Ok-clause-kept : goal.returns-in-Ok-clause-kept
returns-in-Ok-clause-kept g c = inr (ok_kept _ c.in-Ok.entry c.in-Ok.ensures.kept)
