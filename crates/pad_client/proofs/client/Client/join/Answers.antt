use Rattle.std.proofs.Common.{refl}
use Rattle.std.proofs.lemmas.Result.{IfOk-weaker}
use Rattle.pad_client.proofs.client.Client.join.Goals as goal

pub returns-clause-joins : goal.returns-clause-joins
returns-clause-joins g c = rw (← c.self.view_is) (IfOk-weaker c.join.result _ _ (λ wire joins. (c.join.new.self, joins, refl)) c.join.ensures.joins)
