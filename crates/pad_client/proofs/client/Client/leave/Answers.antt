use Rattle.std.proofs.Common.{refl}
use Rattle.std.proofs.lemmas.Result.{IfOk-weaker}
use Rattle.pad_client.proofs.client.Client.leave.Goals as goal

pub returns-clause-leaves : goal.returns-clause-leaves
returns-clause-leaves g c = rw (← c.self.view_is) (IfOk-weaker c.leave.result _ _ (λ wire leaves. (c.leave.new.self, leaves, refl)) c.leave.ensures.leaves)
