use Rattle.std.proofs.Common.{[], false, refl, sym, ◌∙◌, ap, subst}
use Rattle.pad_patch.specs.Misfit.{CanApply}
use Rattle.pad_model.specs.Choice.{first_choice}
use Rattle.pad_checkpoint.specs.declared.place.Place.{Place}
use Rattle.client_copy.specs.View.{View, StandsAs}
use Rattle.client_copy.proofs.Adopting.{nothing_removed, moved_held, gives_of, adopted_stands}
use Rattle.client_copy.proofs.working_copy.WorkingCopy.adopt.Goals as goal

pub move_to-requires : goal.move_to-requires
move_to-requires g c =
    nothing_removed c.self.inside.work.patch
    (subst (CanApply c.self.inside.work.patch) (ap (λ (v : View). v.pad.chain.branch.branch.units) c.self.view_is ∙ c.requires.empty) c.self.invariant.work_is.applies)

pub invariant_of-self : goal.invariant_of-self
invariant_of-self g c =
    let i = c.self.inside in
    let empty = ap (λ (v : View). v.pad.chain.branch.branch.units) c.self.view_is ∙ c.requires.empty in
    moved_held c.moved_whole.ensures c.moved_typed.ensures i.chain.branch.branch.units c.in-Ok.chain.branch.branch.units i.work i.sent.entries i.strokes c.hash.result c.move_to.new.self c.self.invariant
    c.has_text.ensures.text c.has_text.ensures.short c.hash.ensures.is c.move_to.ensures.moved
    (c.move_to.ensures.applies (subst (CanApply i.work.patch) empty c.self.invariant.work_is.applies) c.in-Ok.chain.branch.branch.units)

pub returns-clause-adopts : goal.returns-clause-adopts
returns-clause-adopts g c adopted copy stands clash =
    let i = c.self.inside in
    let m = c.args.message.now in
    let given = gives_of m c.in-Ok.ensures.ok in
    let chain_stands = c.in-Ok.ensures.stands.0 given.0 given.1 in
    let old : View = record { pad = record { chain = i.chain; base = i.base; repaired = i.repaired }; work = i.work; sent = i.sent.entries; strokes = i.strokes } in
    let new : View = record { pad = record { chain = c.in-Ok.chain; base = c.best.result.name; repaired = false }; work = c.move_to.new.self; sent = i.sent.entries; strokes = i.strokes } in
    adopted_stands old new copy m given.0 c.hash.result given.1 (subst (λ (v : View). StandsAs v copy) (sym c.self.view_is) stands) chain_stands c.in-Ok.ensures.stands.1
    (ap (λ (p : Place). p.name) (c.best.ensures.stands given.0 [] first_choice chain_stands)) refl (c.hash.ensures.stands given.0 [] first_choice chain_stands) c.move_to.ensures.moved refl refl
