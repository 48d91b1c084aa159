-- The chain goes on, or is full.
use Rattle.std.proofs.Common.{Result, Ok, Err, OnOk}
use Rattle.std.proofs.lemmas.Result.{IfErr-weaker}
use Rattle.pad_received.proofs.Receiving.{at_more, message_refusal}
use Rattle.pad_received.proofs.received.Received.receive.Goals as goal

both : {A E P Q R : Type 0} (r : Result A E) → (P → Q → R) → OnOk r P → OnOk r Q → OnOk r R
both (Ok x) f p q = f p q
both (Err e) f p q = tt

pub returns-clause-received : goal.returns-clause-received
returns-clause-received g c =
    both c.receive_without_moves.result
    (λ knows stands. at_more c.args.self.now.chain c.receive_without_moves.new.self c.args.self.now.unreadable c.args.message c.receive_without_moves.ensures.whole knows stands)
    c.receive_without_moves.ensures.knows c.receive_without_moves.ensures.stands

pub returns-clause-refused : goal.returns-clause-refused
returns-clause-refused g c =
    IfErr-weaker c.receive_without_moves.result _ _ (λ error why. message_refusal c.args.self.now c.args.message error why) c.receive_without_moves.ensures.limit
