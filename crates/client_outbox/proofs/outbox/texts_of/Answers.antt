use Rattle.std.proofs.Common.{◌+◌, ◌++◌, ◌∷◌, [], List, ℕ, drop, sym, ◌∙◌, ap, arith, append_assoc}
use Rattle.client_outbox.specs.Outbox.{Unacknowledged, message_request, texts_again}
use Rattle.client_outbox.proofs.Loops.{next_of}
use Rattle.client_outbox.proofs.outbox.texts_of.Goals as goal

pub loop-own-preserved : goal.loop-own-preserved
loop-own-preserved c =
    let channel = c.args.channel.now in
    let seq = c.loop-own.seq in
    let rest = drop (c.loop-own.own-index + 1) c.args.messages.now in
    record {
      texts = ap (λ (ts : List (List ℕ)). ts ++ texts_again channel (seq + 1) rest) c.in_ok-push.ensures.items
          ∙ append_assoc c.loop-own.texts.items (c.in_ok-message_text.field-0 ∷ []) (texts_again channel (seq + 1) rest)
          ∙ ap (λ (t : List ℕ). c.loop-own.texts.items ++ t ∷ texts_again channel (seq + 1) rest) (c.in_ok-message_text.ensures ∙ ap (message_request channel (seq + 1)) c.message.ensures.is)
          ∙ ap (λ (ms : List Unacknowledged). c.loop-own.texts.items ++ texts_again channel seq ms) (sym (next_of c.args.messages.now c.loop-own.own-index c.own-item.result (omega arith) c.own-item.is))
          ∙ c.loop-own.invariant.texts;
      last = omega arith;
    }
