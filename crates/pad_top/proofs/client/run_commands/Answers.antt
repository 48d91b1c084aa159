-- What is carried out over a link that was dialled.
use Rattle.std.proofs.lemmas.Result.{IfErr-weaker, on_ok_weaker}
use Rattle.pad_conversation.specs.declared.refused.ConversationRefused.TheVariants as refused
use Rattle.pad_top.proofs.Scripted.{dialled, dialled_part, not_begun}
use Rattle.pad_top.proofs.client.run_commands.Goals as goal

pub returns-in-Ok-clause-done : goal.returns-in-Ok-clause-done
returns-in-Ok-clause-done g c =
    let K = g.K.Link in let O = g.O.Sink in let old = c.args.link.now in let mid = c.dial.new.self in let now = c.carry_out.new.link in
    on_ok_weaker c.carry_out.result
    (dialled c.args.commands.now K.tells (K.heard old) (K.heard mid) (K.heard now) (K.sent old) (K.sent mid) (K.sent now) (O.written c.args.output.now) (O.written c.carry_out.new.output) (λ t. c.in-Ok.ensures.lists t))
    c.carry_out.ensures.done

pub returns-in-Ok-clause-stopped : goal.returns-in-Ok-clause-stopped
returns-in-Ok-clause-stopped g c =
    let K = g.K.Link in let O = g.O.Sink in let old = c.args.link.now in let mid = c.dial.new.self in let now = c.carry_out.new.link in
    IfErr-weaker c.carry_out.result _ _
    (λ why some. dialled_part c.args.commands.now K.tells (K.heard old) (K.heard mid) (K.heard now) (K.sent old) (K.sent mid) (K.sent now) (O.written c.args.output.now) (O.written c.carry_out.new.output) why
    (λ t. c.in-Ok.ensures.lists t) some)
    c.carry_out.ensures.stopped

pub returns-in-Err-Failed-clause-stopped : goal.returns-in-Err-Failed-clause-stopped
returns-in-Err-Failed-clause-stopped g c =
    let K = g.K.Link in let old = c.args.link.now in let now = c.dial.new.self in
    not_begun c.args.commands.now K.tells (K.heard old) (K.heard now) (K.sent old) (K.sent now) (g.O.Sink.written c.args.output.now) refused.Link tt (λ t. c.in-Err-Failed.ensures.lists t)

pub returns-in-Err-NoMemory-clause-stopped : goal.returns-in-Err-NoMemory-clause-stopped
returns-in-Err-NoMemory-clause-stopped g c =
    let K = g.K.Link in let old = c.args.link.now in let now = c.dial.new.self in
    not_begun c.args.commands.now K.tells (K.heard old) (K.heard now) (K.sent old) (K.sent now) (g.O.Sink.written c.args.output.now) refused.NoMemory tt (λ t. c.in-Err-NoMemory.ensures.lists t)
