use Rattle.std.proofs.Common.{ap, ◌∙◌}
use Rattle.pad_branch.specs.Branch.{tip_of, height_of}
use Rattle.pad_chain.proofs.Ends.{end_place}
use Rattle.pad_chain.specs.State.{View}
use Rattle.pad_chain.proofs.chain.Chain.best.Goals as goal

pub returns-clause-stands : goal.returns-clause-stands
returns-clause-stands g c b R choice s =
    (λ i. record { name = (c.tip.ensures.is i).name; height = c.height.ensures.is i })
    ∙ ap (λ (v : View). record { name = (tip_of v.branch.branch).name; height = height_of v.branch.branch }) c.self.view_is ∙ end_place b R c.args.self.now choice s
