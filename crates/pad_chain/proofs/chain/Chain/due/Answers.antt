use Rattle.std.proofs.Common.{ap, ◌∙◌}
use Rattle.pad_branch.specs.declared.tip.Tip.{Tip}
use Rattle.pad_branch.specs.Branch.{tip_of}
use Rattle.pad_chain.specs.State.{View}
use Rattle.pad_chain.proofs.Ends.{end_tip, due_same}
use Rattle.pad_chain.proofs.chain.Chain.due.Goals as goal

pub returns-clause-is : goal.returns-clause-is
returns-clause-is g c =
    due_same _ _ _ _ _ (ap (λ (t : Tip). t.since) c.tip-tip.ensures.is ∙ ap (λ (v : View). (tip_of v.branch.branch).since) c.self.view_is)
    (ap (λ (t : Tip). t.interval) c.tip-tip.ensures.is ∙ ap (λ (v : View). (tip_of v.branch.branch).interval) c.self.view_is) c.is_due.ensures

pub returns-clause-stands : goal.returns-clause-stands
returns-clause-stands g c b R choice s =
    let e = end_tip b R c.args.self.now choice s in
    due_same _ _ _ _ _ (ap (λ (t : Tip). t.since) c.tip-tip.ensures.is ∙ ap (λ (v : View). (tip_of v.branch.branch).since) c.self.view_is ∙ e.since)
    (ap (λ (t : Tip). t.interval) c.tip-tip.ensures.is ∙ ap (λ (v : View). (tip_of v.branch.branch).interval) c.self.view_is ∙ e.interval) c.is_due.ensures
