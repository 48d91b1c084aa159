use Rattle.std.proofs.Common.{◌∙◌, sym, refl, subst}
use Rattle.pad_patch.specs.declared.operation.Operation.{Operation}
use Rattle.pad_patch.specs.Piece.{text_after}
use Rattle.pad_client.specs.Refusal.{IsEditCause}
use Rattle.pad_script.specs.declared.act.Act.TheVariants as act
use Rattle.client_script.proofs.Lines.{Comes, both_ok, comes_so, edited, edit_cause, refused_for}
use Rattle.client_script.proofs.scripted.ScriptedClient.edit.Goals as goal

pub returns-in-Ok-clause-does : goal.returns-in-Ok-clause-does
returns-in-Ok-clause-does g c client stands may =
    let done = c.in-Ok.ensures.stands client stands in
    let comes = comes_so (edited client c.args.line c.in_ok-op.op done.0 done.1 done.2) c.says_nothing.ensures.texts c.says_nothing.ensures.lines refl c.requires.quiet in
    subst (λ (op : Operation). Comes client c.args.line (act.Edit op) c.says_nothing.result.texts c.says_nothing.result.lines c.edit.new.self c.args.self.now.hearing) c.in_ok-op.ensures.copy comes

pub returns-in-Some-clause-does : goal.returns-in-Some-clause-does
returns-in-Some-clause-does g c =
    both_ok c.refuses.result c.refuses.ensures.texts c.refuses.ensures.lines (λ said texts lines client stands may.
    let cause = edit_cause c.in-Err.refused c.args.self.now.client client c.args.op.now stands (sym c.text-committed.ensures.is ∙ c.text-committed.ensures.stands client stands)
    (subst (λ (op : Operation). IsEditCause c.args.self.now.client.requests (text_after c.args.self.now.client.copy.work.patch c.args.self.now.client.copy.pad.chain.branch.branch.units) op c.in-Err.refused) c.in_ok-op.ensures.copy c.in-Err.ensures.cause) in
    comes_so
    (refused_for c.args.self.now.client client c.args.line (act.Edit c.args.op.now) c.in-Some.word.now stands (c.in-Err.refused, cause, c.in-Some.ensures.some))
    texts lines c.in-Err.ensures.unchanged c.requires.quiet)
