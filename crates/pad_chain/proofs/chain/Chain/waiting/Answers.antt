use Rattle.std.proofs.Common.{sym, ap, ◌∙◌, subst}
use Rattle.pad_list.specs.Number.{IsNumberOf}
use Rattle.pad_model.specs.Count.{IsWaiting}
use Rattle.pad_chain.proofs.Questions.{waiting_of}
use Rattle.pad_chain.specs.State.{View}
use Rattle.pad_chain.proofs.chain.Chain.waiting.Goals as goal

pub returns-clause-stands : goal.returns-clause-stands
returns-clause-stands g c b R choice s =
    subst (IsNumberOf (IsWaiting b R)) (sym (c.waiting.ensures ∙ ap (λ (v : View). v.graph.waiting) c.self.view_is)) (waiting_of b R c.args.self.now choice s)
