-- The message that the line spells is received, or is refused.
use Rattle.std.proofs.Common.{None, Some, Result, Ok, Err, OnOk, subst}
use Rattle.std.proofs.lemmas.Result.{IfErr-weaker}
use Rattle.pad_received.specs.Contents.{LineSpells, ReadsAs}
use Rattle.pad_received.proofs.Receiving.{at_other, line_refusal}
use Rattle.pad_received.proofs.received.Received.receive_line.Goals as goal

on_ok : {A E : Type 0} {P Q : Type 0} (r : Result A E) → (P → Q) → OnOk r P → OnOk r Q
on_ok (Ok x) f h = f h
on_ok (Err e) f h = tt

pub returns-in-Some-clause-received : goal.returns-in-Some-clause-received
returns-in-Some-clause-received g c =
    let spelled : LineSpells c.args.line.now c.in-Some.message = subst (ReadsAs c.args.line.now) c.in-Some.is c.in_ok-message.ensures.read in
    on_ok c.receive.result (λ goes_on. (Some c.in-Some.message, spelled, goes_on)) c.receive.ensures.received

pub returns-in-Some-clause-refused : goal.returns-in-Some-clause-refused
returns-in-Some-clause-refused g c =
    let spelled : LineSpells c.args.line.now c.in-Some.message = subst (ReadsAs c.args.line.now) c.in-Some.is c.in_ok-message.ensures.read in
    IfErr-weaker c.receive.result _ _ (λ error why progress at. line_refusal c.args.line.now progress.messages c.in-Some.message spelled error (why progress at)) c.receive.ensures.refused

pub returns-in-None-clause-received : goal.returns-in-None-clause-received
returns-in-None-clause-received g c =
    (None, subst (ReadsAs c.args.line.now) c.in-None.is c.in_ok-message.ensures.read, at_other c.args.self.now.chain c.args.self.now.unreadable)
