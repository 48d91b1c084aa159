use Rattle.std.proofs.Common.{ap, ◌∙◌}
use Rattle.pad_chain.proofs.Questions.{kept_of}
use Rattle.pad_chain.specs.State.{View}
use Rattle.pad_chain.proofs.chain.Chain.kept.Goals as goal

pub returns-clause-stands : goal.returns-clause-stands
returns-clause-stands g c b R choice s =
    let (above, number, is) = kept_of b R c.args.self.now choice s in
    (above, number, c.kept.ensures ∙ ap (λ (v : View). v.graph.kept) c.self.view_is ∙ is)
