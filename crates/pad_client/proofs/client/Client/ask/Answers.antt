use Rattle.std.proofs.Common.{refl}
use Rattle.std.proofs.lemmas.Result.{IfOk-weaker}
use Rattle.pad_client.proofs.client.Client.ask.Goals as goal

pub returns-clause-asks : goal.returns-clause-asks
returns-clause-asks g c = rw (← c.self.view_is) (IfOk-weaker c.ask.result _ _ (λ wire asks. (c.ask.new.self, asks, refl)) c.ask.ensures.asks)
