use Rattle.std.proofs.Common.{◌≡◌, ◌∙◌, ℕ, List, [], ◌∷◌, ◌++◌, Ok, Err, refl, sym, ap}
use Rattle.std.proofs.lemmas.Result.{err_from_is_err_and}
use Rattle.pad_edge.specs.Link.{texts_in}
use Rattle.pad_edge.specs.declared.arrival.Arrival.{Arrival}
use Rattle.pad_output.specs.Output.{AppendsPart}
use Rattle.pad_conversation.proofs.Steps.{if_err, came_none, not_ended, full_of, wrote_part}
use Rattle.pad_conversation.specs.Inside.Progress.{HasHeardInPart, refused_one, unwritten}
use Rattle.pad_conversation.specs.Refused.{refusal_of}
use Rattle.pad_conversation.specs.Told.{told}
use Rattle.pad_conversation.specs.declared.refused.ConversationRefused.TheVariants.{Link, Ended, NoMemory, Write}
use Rattle.pad_conversation.proofs.conversing.hear_one.Goals as goal

pub returns-in-Ok-Ended-clause-part : goal.returns-in-Ok-Ended-clause-part
returns-in-Ok-Ended-clause-part g c = let L = g.L.Link in
    came_none g.M.Speaker.machine (g.M.Speaker.stands c.args.speaker.now) L.tells (L.heard c.args.link.now) (L.heard c.recv.new.self) (L.sent c.args.link.now) (L.sent c.recv.new.self) (g.O.Sink.written c.args.output.now) Ended
    (λ is. (cc)) (λ t. c.in-Ok-Ended.ensures.heard t ∙ ap (λ (a : Arrival). L.heard c.args.link.now ++ texts_in (Ok a)) c.in-Ok-Ended.field-0-is) (λ t. c.in-Ok-Ended.ensures.sent t)

pub returns-in-Err-Failed-clause-part : goal.returns-in-Err-Failed-clause-part
returns-in-Err-Failed-clause-part g c = let L = g.L.Link in
    came_none g.M.Speaker.machine (g.M.Speaker.stands c.args.speaker.now) L.tells (L.heard c.args.link.now) (L.heard c.recv.new.self) (L.sent c.args.link.now) (L.sent c.recv.new.self) (g.O.Sink.written c.args.output.now) Link
    (λ is. (cc)) (λ t. c.in-Err-Failed.ensures.heard t) (λ t. c.in-Err-Failed.ensures.sent t)

pub returns-in-Err-NoMemory-clause-part : goal.returns-in-Err-NoMemory-clause-part
returns-in-Err-NoMemory-clause-part g c = let L = g.L.Link in
    came_none g.M.Speaker.machine (g.M.Speaker.stands c.args.speaker.now) L.tells (L.heard c.args.link.now) (L.heard c.recv.new.self) (L.sent c.args.link.now) (L.sent c.recv.new.self) (g.O.Sink.written c.args.output.now) NoMemory
    (λ is. (cc)) (λ t. c.in-Err-NoMemory.ensures.heard t) (λ t. c.in-Err-NoMemory.ensures.sent t)

pub returns-in_err-lines-clause-part : goal.returns-in_err-lines-clause-part
returns-in_err-lines-clause-part g c =
    let L = g.L.Link in let machine = g.M.Speaker.machine in let Old = g.M.Speaker.stands c.args.speaker.now in
    let before = told (L.heard c.args.link.now) (L.sent c.args.link.now) (g.O.Sink.written c.args.output.now) in
    let now = told (L.heard c.recv.new.self) (L.sent c.recv.new.self) (g.O.Sink.written c.args.output.now) in
    let cause = c.in_err-lines.field-0.0 in
    let p = err_from_is_err_and c.from_residual.result c.from_residual.ensures.1 in
    if_err (HasHeardInPart machine Old L.tells before now) c.from_residual.result (refusal_of cause) (p.1 ∙ ap Err p.2)
    (refused_one (refusal_of cause) c.as_str.result.now (not_ended cause) (λ is. c.in_err-lines.ensures.full (full_of cause is))
    (λ t. c.in-Ok-Text.ensures.heard t ∙ ap (λ (a : Arrival). L.heard c.args.link.now ++ texts_in (Ok a)) c.in-Ok-Text.field-0-is ∙ ap (λ (text : List ℕ). L.heard c.args.link.now ++ text ∷ []) (sym c.as_str.ensures)) (λ t. c.in-Ok-Text.ensures.sent t) refl)

pub returns-clause-part : goal.returns-clause-part
returns-clause-part g c =
    let L = g.L.Link in let O = g.O.Sink in let machine = g.M.Speaker.machine in let Old = g.M.Speaker.stands c.args.speaker.now in
    let before = told (L.heard c.args.link.now) (L.sent c.args.link.now) (O.written c.args.output.now) in
    let now = told (L.heard c.recv.new.self) (L.sent c.recv.new.self) (O.written c.write_lines.new.output) in
    wrote_part (HasHeardInPart machine Old L.tells before now) (AppendsPart (O.written c.args.output.now) (O.written c.write_lines.new.output) c.in_ok-lines.lines) c.write_lines.result
    c.write_lines.ensures.part c.write_lines.ensures.refused
    (λ part. unwritten c.as_str.result.now c.in_ok-lines.lines
    (λ t. c.in-Ok-Text.ensures.heard t ∙ ap (λ (a : Arrival). L.heard c.args.link.now ++ texts_in (Ok a)) c.in-Ok-Text.field-0-is ∙ ap (λ (text : List ℕ). L.heard c.args.link.now ++ text ∷ []) (sym c.as_str.ensures)) (λ t. c.in-Ok-Text.ensures.sent t) part
    (λ state stands may. let next = c.in_ok-lines.ensures.hears state stands may in (next.0, next.1)))
