use Rattle.std.proofs.Common.{sym, ap, ◌∙◌, subst}
use Rattle.pad_list.specs.Number.{IsNumberOf}
use Rattle.pad_model.specs.Count.{IsKnown}
use Rattle.pad_chain.proofs.Questions.{known_of}
use Rattle.pad_chain.proofs.Knowing.{number_known}
use Rattle.pad_chain.specs.State.{View}
use Rattle.pad_chain.proofs.chain.Chain.known.Goals as goal

pub returns-clause-stands : goal.returns-clause-stands
returns-clause-stands g c b R choice s =
    subst (IsNumberOf (IsKnown b R)) (sym (c.known.ensures.is ∙ ap (λ (v : View). v.graph.known) c.self.view_is)) (known_of b R c.args.self.now choice s)

pub returns-clause-knows : goal.returns-clause-knows
returns-clause-knows g c b R k =
    subst (IsNumberOf (IsKnown b R)) (sym (c.known.ensures.is ∙ ap (λ (v : View). v.graph.known) c.self.view_is)) (number_known c.args.self.now b R k)
