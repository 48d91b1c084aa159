use Rattle.std.proofs.Common.{◌≡◌, true, false, List, ℕ, refl, sym, ◌∙◌, ap, subst}
use Rattle.pad_text.specs.Hash.{document_hash}
use Rattle.pad_checkpoint.specs.declared.place.Place.{Place}
use Rattle.pad_model.specs.Base.{first_base}
use Rattle.pad_stroke.specs.Work.{Marked}
use Rattle.pad_chain.specs.Leads.{Leads}
use Rattle.pad_chain.specs.State as chains
use Rattle.pad_chain.specs.Tie.{StandsFor}
use Rattle.client_work.specs.Switch.{switched}
use Rattle.client_work.specs.Carrying.{AreInverses, all_moves}
use Rattle.client_copy.specs.Held.{IsHeldOn}
use Rattle.client_copy.specs.Pad.{committed}
use Rattle.client_copy.specs.State.{Copy}
use Rattle.client_copy.specs.Repair.{EndsRepair}
use Rattle.client_copy.specs.View.{View, StandsAs}
use Rattle.client_copy.proofs.Repairing.{ended_anew, ended_on}
use Rattle.client_copy.proofs.Spare.{spare_held}
use Rattle.client_copy.proofs.working_copy.WorkingCopy.end_repair.Goals as goal

-- what a working copy has after the exchange
abbrev taken : View → chains.View → Marked → View
taken old chain work = record old { pad = record { chain = chain; base = first_base.name; repaired = true }; work = work }

pub take-requires : goal.take-requires
take-requires g c =
    let i = c.self.inside in
    subst (λ (v : View). IsHeldOn c.args.chain.branch.branch.units c.in_ok-work.work v.sent v.strokes) c.self.view_is
    (spare_held i.chain.branch.branch.units c.args.chain.branch.branch.units i.work c.in_ok-work.work i.sent.entries i.strokes c.self.invariant c.in_ok-work.ensures.text c.in_ok-work.ensures.short
    c.in_ok-work.ensures.empty)

pub returns-in_default-clause-ends : goal.returns-in_default-clause-ends
returns-in_default-clause-ends g c copy received choice stands chain_stands among clash =
    let old : View = c.args.self.now in
    let stood : StandsFor c.self.inside.chain copy.pad.base copy.pad.received copy.pad.choice =
    subst (λ (v : View). StandsFor v.pad.chain copy.pad.base copy.pad.received copy.pad.choice) (sym c.self.view_is) stands.pad.stands in
    subst (λ (v : View). (after : Copy) × EndsRepair copy received false after × StandsAs v after) (sym c.take.ensures)
    (ended_anew old (taken old c.args.chain c.in_ok-work.work) copy received choice c.best.result.name stands chain_stands c.requires.whole among
    (ap (λ (p : Place). p.name) (c.best.ensures.stands copy.pad.base copy.pad.received copy.pad.choice stood))
    ((rw c.in_default.is at c.in_ok-from.ensures.none) refl first_base received choice chain_stands) refl refl refl refl (c.in_ok-work.ensures.stands first_base received choice chain_stands))

pub returns-clause-ends : goal.returns-clause-ends
returns-clause-ends g c copy received choice stands chain_stands among clash =
    let i = c.self.inside in
    let moved = c.in-Some.moved in
    let from = g.S.UnitStore.units c.in-Some.from in
    let to = c.args.chain.branch.branch.units in
    let old : View = record { pad = record { chain = i.chain; base = i.base; repaired = i.repaired }; work = i.work; sent = i.sent.entries; strokes = i.strokes } in
    let stood : StandsAs old copy = subst (λ (v : View). StandsAs v copy) (sym c.self.view_is) stands in
    let told = (rw c.in-Some.is at c.in_ok-from.ensures.some) first_base received choice chain_stands in
    let units : i.chain.branch.branch.units ≡ committed copy.pad = sym c.text.ensures.is ∙ c.text.ensures.stands copy.pad.base copy.pad.received copy.pad.choice stood.pad.stands in
    subst (λ (v : View). (after : Copy) × EndsRepair copy received true after × StandsAs v after) (sym c.take-2.ensures)
    (subst (λ (v : View). (after : Copy) × EndsRepair copy received true after × StandsAs (taken v c.args.chain c.in_ok-work-2.work) after) c.self.view_is
    (ended_on c.fitting_applies.ensures c.inverse_gives_back.ensures old (taken old c.args.chain c.in_ok-work-2.work) copy received choice c.best.result.name from told.0 moved stood clash chain_stands
    c.requires.whole among (ap (λ (p : Place). p.name) (c.best.ensures.stands copy.pad.base copy.pad.received copy.pad.choice stood.pad.stands)) units told.1 told.2 told.3 told.4 c.self.invariant.made
    (subst (λ (u : List ℕ). from ≡ u → Leads (all_moves moved) from to → AreInverses i.sent.entries moved.reverted u
    → (switched i.sent.entries moved (record { text = u; work = i.work })).work.patch.before ≡ document_hash to
    → c.in_ok-work-2.work ≡ (switched i.sent.entries moved (record { text = u; work = i.work })).work) c.text.ensures.is c.in_ok-work-2.ensures.switched)
    refl refl refl refl))
