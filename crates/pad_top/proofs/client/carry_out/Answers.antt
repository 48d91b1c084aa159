-- Commands are carried out as the conversation says, or not begun.
use Rattle.std.proofs.Common.{refl}
use Rattle.std.proofs.lemmas.Result.{IfErr-weaker, on_ok_weaker}
use Rattle.pad_conversation.specs.declared.refused.ConversationRefused.TheVariants as refused
use Rattle.client_script.specs.State.{new_scripted}
use Rattle.pad_top.proofs.Scripted.{carried, stopped, not_begun}
use Rattle.pad_top.proofs.client.carry_out.Goals as goal

pub converse-requires : goal.converse-requires
converse-requires g c = let script = c.requires.script in c.in-Ok.ensures.lasts script.0 c.args.commands.now script.1 script.2 script.3

pub returns-in_default-clause-stopped : goal.returns-in_default-clause-stopped
returns-in_default-clause-stopped g c =
    let K = g.K.Link in let link = c.args.link.now in
    not_begun c.args.commands.now K.tells (K.heard link) (K.heard link) (K.sent link) (K.sent link) (g.O.Sink.written c.args.output.now) refused.NoMemory tt (λ t. (refl, refl))

pub returns-clause-done : goal.returns-clause-done
returns-clause-done g c =
    let K = g.K.Link in let O = g.O.Sink in let old = c.args.link.now in let now = c.converse.new.link in
    on_ok_weaker c.converse.result (carried _ c.args.commands.now K.tells (K.heard old) (K.heard now) (K.sent old) (K.sent now) (O.written c.args.output.now) (O.written c.converse.new.output))
    (c.converse.ensures.conversed new_scripted c.in-Ok.ensures.stands refl)

pub returns-clause-stopped : goal.returns-clause-stopped
returns-clause-stopped g c =
    let K = g.K.Link in let O = g.O.Sink in let old = c.args.link.now in let now = c.converse.new.link in
    IfErr-weaker c.converse.result _ _ (stopped c.args.commands.now K.tells (K.heard old) (K.heard now) (K.sent old) (K.sent now) (O.written c.args.output.now) (O.written c.converse.new.output))
    (c.converse.ensures.stopped new_scripted c.in-Ok.ensures.stands refl)
