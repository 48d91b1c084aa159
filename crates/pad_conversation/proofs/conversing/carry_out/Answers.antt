use Rattle.std.proofs.Common.{◌≡◌, ◌≢◌, ◌∙◌, ℕ, List, [], ◌∷◌, ◌++◌, Err, refl, sym, ap, subst}
use Rattle.std.proofs.lemmas.List.{append-nil}
use Rattle.std.proofs.lemmas.Result.{err_from_is_err_and}
use Rattle.pad_output.specs.Output.{AppendsPart}
use Rattle.pad_conversation.proofs.Parts.{nothing_of}
use Rattle.pad_conversation.proofs.Steps.{if_err, not_ended, not_ended_of, not_full_of, full_of, wrote_part}
use Rattle.pad_conversation.specs.Inside.Progress.{HasDoneInPart, cut_short}
use Rattle.pad_conversation.specs.Inside.Progress as inside
use Rattle.pad_conversation.specs.Refused.{refusal_of}
use Rattle.pad_conversation.specs.Told.{told}
use Rattle.pad_conversation.specs.declared.refused.ConversationRefused.TheVariants.{Write}
use Rattle.pad_conversation.proofs.conversing.carry_out.Goals as goal

pub returns-in_err-said-clause-part : goal.returns-in_err-said-clause-part
returns-in_err-said-clause-part g c =
    let L = g.L.Link in let machine = g.M.Speaker.machine in let Old = g.M.Speaker.stands c.args.speaker.now in
    let before = told (L.heard c.args.link.now) (L.sent c.args.link.now) (g.O.Sink.written c.args.output.now) in
    let cause = c.in_err-said.field-0.0 in
    let p = err_from_is_err_and c.from_residual.result c.from_residual.ensures.1 in
    if_err (HasDoneInPart machine Old c.args.command.now L.tells before before) c.from_residual.result (refusal_of cause) (p.1 ∙ ap Err p.2)
    (inside.refuses_one (refusal_of cause) (not_ended cause) (λ is. c.in_err-said.ensures.full (full_of cause is)) (λ t. refl) (λ t. refl) refl)

pub returns-in_err-send_all-clause-part : goal.returns-in_err-send_all-clause-part
returns-in_err-send_all-clause-part g c =
    let L = g.L.Link in let O = g.O.Sink in let machine = g.M.Speaker.machine in let Old = g.M.Speaker.stands c.args.speaker.now in
    let before = told (L.heard c.args.link.now) (L.sent c.args.link.now) (O.written c.args.output.now) in
    let now = told (L.heard c.send_all.new.link) (L.sent c.send_all.new.link) (O.written c.args.output.now) in
    let why = c.in_err-send_all.field-0.0 in
    let p = err_from_is_err_and c.from_residual-in_err-send_all.result c.from_residual-in_err-send_all.ensures.1 in
    let part = c.in_err-send_all.ensures.part in let causes = c.in_err-send_all.ensures.refused in
    if_err (HasDoneInPart machine Old c.args.command.now L.tells before now) c.from_residual-in_err-send_all.result why (p.1 ∙ ap Err p.2)
    (cut_short why c.in_ok-said.said.texts part.0 part.1 c.in_ok-said.said.lines (not_ended_of why causes) (not_full_of why causes) (sym c.as_slice.ensures ∙ part.2) (λ t. c.in_err-send_all.ensures.heard t) (λ t. part.3 t)
    (nothing_of (O.written c.args.output.now) c.in_ok-said.said.lines)
    (λ state stands may. let next = c.in_ok-said.ensures.does state stands may in (next.0, next.1)))

pub returns-clause-part : goal.returns-clause-part
returns-clause-part g c =
    let L = g.L.Link in let O = g.O.Sink in let machine = g.M.Speaker.machine in let Old = g.M.Speaker.stands c.args.speaker.now in
    let before = told (L.heard c.args.link.now) (L.sent c.args.link.now) (O.written c.args.output.now) in
    let now = told (L.heard c.send_all.new.link) (L.sent c.send_all.new.link) (O.written c.write_lines.new.output) in
    let texts = c.in_ok-said.said.texts in
    wrote_part (HasDoneInPart machine Old c.args.command.now L.tells before now) (AppendsPart (O.written c.args.output.now) (O.written c.write_lines.new.output) c.in_ok-said.said.lines) c.write_lines.result
    c.write_lines.ensures.part c.write_lines.ensures.refused
    (λ part. cut_short Write texts texts [] c.in_ok-said.said.lines (λ is. (cc)) (λ is. (cc)) (sym (append-nil texts)) (λ t. c.in_ok-send_all.ensures.heard t)
    (λ t. c.in_ok-send_all.ensures.sent t ∙ ap (λ (l : List (List ℕ)). L.sent c.args.link.now ++ l) c.as_slice.ensures) part
    (λ state stands may. let next = c.in_ok-said.ensures.does state stands may in (next.0, next.1)))
