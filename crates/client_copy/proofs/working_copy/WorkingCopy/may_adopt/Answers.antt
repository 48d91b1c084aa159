use Rattle.std.proofs.Common.{length, sym, ◌∙◌, ap, subst}
use Rattle.pad_list.specs.Number.{IsNumberOf}
use Rattle.pad_model.specs.Count.{IsKnown}
use Rattle.pad_chain.specs.Tie.{StandsFor}
use Rattle.client_copy.specs.View.{View}
use Rattle.client_copy.proofs.Adoptable.{may_of, begun_of}
use Rattle.client_copy.proofs.working_copy.WorkingCopy.may_adopt.Goals as goal

pub returns-clause-may : goal.returns-clause-may
returns-clause-may g c copy stands clash =
    let i = c.self.inside in
    let stood : StandsFor i.chain copy.pad.base copy.pad.received copy.pad.choice =
    subst (λ (v : View). StandsFor v.pad.chain copy.pad.base copy.pad.received copy.pad.choice) (sym c.self.view_is) stands.pad.stands in
    let known = c.known-known.ensures.is ∙ ap (λ (v : View). v.pad.chain.graph.known) c.self.view_is in
    let units = c.text-text.ensures.is ∙ ap (λ (v : View). v.pad.chain.branch.branch.units) c.self.view_is in
    let test = begun_of c.is_begun.result i.repaired i.base c.known-known.result c.length.result c.args.self.now c.is_begun.ensures (ap (λ (v : View). v.pad.repaired) c.self.view_is)
    (ap (λ (v : View). v.pad.base) c.self.view_is) known (c.length.ensures ∙ ap length units) in
    let may = may_of c.args.self.now copy stands clash
    (subst (IsNumberOf (IsKnown copy.pad.base copy.pad.received)) known (c.known-known.ensures.stands copy.pad.base copy.pad.received copy.pad.choice stood))
    (sym units ∙ c.text-text.ensures.stands copy.pad.base copy.pad.received copy.pad.choice stood) in
    (λ yes. may.0 (test.0 yes), λ is. test.1 (may.1 is))
