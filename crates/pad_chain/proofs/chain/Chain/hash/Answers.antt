use Rattle.std.proofs.Common.{ap, ◌∙◌}
use Rattle.pad_text.specs.Hash.{document_hash}
use Rattle.pad_chain.specs.State.{View}
use Rattle.pad_chain.proofs.Ends.{end_text}
use Rattle.pad_chain.proofs.chain.Chain.hash.Goals as goal

pub returns-clause-is : goal.returns-clause-is
returns-clause-is g c = c.tip.ensures.stands.hash ∙ ap (λ (v : View). document_hash v.branch.branch.units) c.self.view_is

pub returns-clause-stands : goal.returns-clause-stands
returns-clause-stands g c b R choice s =
    c.tip.ensures.stands.hash ∙ ap (λ (v : View). document_hash v.branch.branch.units) c.self.view_is ∙ ap document_hash (end_text b R c.args.self.now choice s)
