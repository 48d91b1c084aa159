use Rattle.std.proofs.Common.{◌∙◌, take, drop, sym}
use Rattle.std.proofs.lemmas.List.{take-append-drop}
use Rattle.pad_conversation.proofs.conversing.send_all.Goals as goal

pub returns-in-Err-Failed-clause-part : goal.returns-in-Err-Failed-clause-part
returns-in-Err-Failed-clause-part g c = let at = c.loop-text.text-index in let texts = c.args.texts.now in
    (take at texts, drop at texts, sym (take-append-drop at texts), λ tells. c.in-Err-Failed.ensures.sent tells ∙ c.loop-text.invariant.sent tells)

pub returns-in-Err-NoMemory-clause-part : goal.returns-in-Err-NoMemory-clause-part
returns-in-Err-NoMemory-clause-part g c = let at = c.loop-text.text-index in let texts = c.args.texts.now in
    (take at texts, drop at texts, sym (take-append-drop at texts), λ tells. c.in-Err-NoMemory.ensures.sent tells ∙ c.loop-text.invariant.sent tells)
