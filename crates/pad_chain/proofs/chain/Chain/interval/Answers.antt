use Rattle.std.proofs.Common.{ap, ◌∙◌}
use Rattle.pad_branch.specs.Branch.{tip_of}
use Rattle.pad_branch.specs.declared.tip.Tip.{Tip}
use Rattle.pad_chain.proofs.Ends.{end_tip}
use Rattle.pad_chain.specs.State.{View}
use Rattle.pad_chain.proofs.chain.Chain.interval.Goals as goal

pub returns-clause-stands : goal.returns-clause-stands
returns-clause-stands g c b R choice s =
    ap (λ (t : Tip). t.interval) c.tip.ensures.is ∙ ap (λ (v : View). (tip_of v.branch.branch).interval) c.self.view_is ∙ (end_tip b R c.args.self.now choice s).interval

pub returns-clause-may : goal.returns-clause-may
returns-clause-may g c = c.tip.ensures.stands.interval
