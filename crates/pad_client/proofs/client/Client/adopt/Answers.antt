use Rattle.std.proofs.Common.{refl, sym, ◌∙◌}
use Rattle.std.proofs.lemmas.Bool.{false≢true}
use Rattle.std.proofs.lemmas.Result.{IfOk-weaker}
use Rattle.pad_client.proofs.Taking.{may_and_was, gives_none}
use Rattle.pad_client.proofs.client.Client.adopt.Goals as goal

pub returns-then-may_adopt-clause-adopts : goal.returns-then-may_adopt-clause-adopts
returns-then-may_adopt-clause-adopts g c =
    IfOk-weaker c.adopt_entry.result _ _ (λ adopted was is client stands clash more.
    may_and_was c.adopt_entry.new.self client c.args.entry c.args.message.now ((c.may_adopt.ensures.may client stands clash).0 c.if-may_adopt.true) (was is client stands more)) c.adopt_entry.ensures.adopts

pub returns-then-may_adopt-clause-refuses : goal.returns-then-may_adopt-clause-refuses
returns-then-may_adopt-clause-refuses g c =
    IfOk-weaker c.adopt_entry.result _ _ (λ adopted was is. ((was is).0, λ client stands clash. gives_none client c.args.entry c.args.message.now (was is).1)) c.adopt_entry.ensures.refuses

pub returns-clause-refuses : goal.returns-clause-refuses
returns-clause-refuses g c is = (refl, λ client stands clash adopted. false≢true (sym c.if-may_adopt.false ∙ (c.may_adopt.ensures.may client stands clash).1 adopted.may))
