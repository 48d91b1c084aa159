use Rattle.std.proofs.Common.{◌≡◌, ◌∷◌, ℕ, ◌+◌, ◌≤◌, Bool, length, refl, sym, ◌∙◌, ap, subst}
use Rattle.std.proofs.lemmas.Result.{err_from_is_err_and}
use Rattle.pad_text.specs.declared.name.Name.{Name}
use Rattle.pad_stroke.specs.Work.{Marked, moved_to}
use Rattle.pad_branch.specs.Branch as branch
use Rattle.pad_chain.specs.State as chains
use Rattle.pad_chain.specs.Tie.{StandsFor}
use Rattle.pad_chain.specs.Knows.{Knows}
use Rattle.client_work.specs.Switch.{SentWorks}
use Rattle.client_work.specs.Carrying.{all_moves}
use Rattle.client_copy.specs.Held.{IsHeldOn}
use Rattle.client_copy.specs.View.{View, StandsAs}
use Rattle.client_copy.proofs.Behind.{ground_on, ready_of, along_held, removes_none}
use Rattle.client_copy.proofs.Following.{differ_among, more_among, followed}
use Rattle.client_copy.proofs.working_copy.WorkingCopy.receive.Goals as goal

abbrev before_of : chains.View → Name → Bool → Marked → SentWorks → ℕ → View
before_of chain base repaired work sent strokes = record { pad = record { chain = chain; base = base; repaired = repaired }; work = work; sent = sent; strokes = strokes }

pub invariant_of-self : goal.invariant_of-self
invariant_of-self g c =
    let i = c.self.inside in
    subst (λ (s : branch.State). IsHeldOn s.units i.work i.sent.entries i.strokes) (sym c.in_err-moved.ensures.same.branch) c.self.invariant

pub move_to-requires : goal.move_to-requires
move_to-requires g c = removes_none c.in_ok-spare.spare c.hash.result c.in_ok-spare.ensures.empty

pub bring_along-requires : goal.bring_along-requires
bring_along-requires g c =
    let i = c.self.inside in (
      ground_on i.chain.branch.branch.units c.self.invariant.typed i.strokes,
      ready_of i.chain.branch.branch.units c.receive_named.new.self.branch.branch.units i.work i.sent.entries i.strokes (all_moves c.in_ok-moved.moved) c.length-size.result c.hash-end.result c.self.invariant
          c.in_ok-moved.ensures.leads (c.length-size.ensures ∙ ap length c.text.ensures.is) c.hash-end.ensures.is,
    )

pub invariant_of-self-in_err-bring_along : goal.invariant_of-self-in_err-bring_along
invariant_of-self-in_err-bring_along g c =
    let i = c.self.inside in
    along_held i.chain.branch.branch.units c.receive_named.new.self.branch.branch.units i.work i.sent.entries i.strokes (all_moves c.in_ok-moved.moved) c.length-size.result c.hash-end.result
    c.move_to.new.self c.bring_along.new.work c.self.invariant c.in_ok-moved.ensures.leads (c.length-size.ensures ∙ ap length c.text.ensures.is) c.hash-end.ensures.is c.has_text.ensures.text
    c.has_text.ensures.short (c.move_to.ensures.moved ∙ ap (λ (w : Marked). moved_to w c.hash-end.result) c.in_ok-spare.ensures.empty) c.bring_along.ensures.stands c.bring_along.ensures.made

pub invariant_of-self-2 : goal.invariant_of-self-2
invariant_of-self-2 g c =
    let i = c.self.inside in
    along_held i.chain.branch.branch.units c.receive_named.new.self.branch.branch.units i.work i.sent.entries i.strokes (all_moves c.in_ok-moved.moved) c.length-size.result c.hash-end.result
    c.move_to.new.self c.bring_along.new.work c.self.invariant c.in_ok-moved.ensures.leads (c.length-size.ensures ∙ ap length c.text.ensures.is) c.hash-end.ensures.is c.has_text.ensures.text
    c.has_text.ensures.short (c.move_to.ensures.moved ∙ ap (λ (w : Marked). moved_to w c.hash-end.result) c.in_ok-spare.ensures.empty) c.bring_along.ensures.stands c.bring_along.ensures.made

pub returns-in_err-moved-clause-full : goal.returns-in_err-moved-clause-full
returns-in_err-moved-clause-full g c = let p = err_from_is_err_and c.from_residual-in_err-moved.result c.from_residual-in_err-moved.ensures.1 in rw (p.1, p.2) (λ is copy stands.
    let stood : StandsAs (before_of c.self.inside.chain c.self.inside.base c.self.inside.repaired c.self.inside.work c.self.inside.sent.entries c.self.inside.strokes) copy = subst (λ (v : View). StandsAs v copy) (sym c.self.view_is) stands in
    c.in_err-moved.ensures.limit is copy.pad.base copy.pad.received (c.stood_is_known.ensures c.self.inside.chain copy.pad.base copy.pad.received copy.pad.choice stood.pad.stands))

pub returns-clause-follows : goal.returns-clause-follows
returns-clause-follows g c copy stands clash =
    let i = c.self.inside in
    let m = c.args.message in
    let moved = c.in_ok-moved.moved in
    let old : View = record { pad = record { chain = i.chain; base = i.base; repaired = i.repaired }; work = i.work; sent = i.sent.entries; strokes = i.strokes } in
    let new : View = record old { pad = record old.pad { chain = c.receive_named.new.self }; work = c.bring_along.new.work } in
    let stood : StandsAs old copy = subst (λ (v : View). StandsAs v copy) (sym c.self.view_is) stands in
    let chain_stands = stood.pad.stands in
    let differ = differ_among (m ∷ copy.pad.received) (m ∷ copy.pad.all) (more_among m copy.pad.received copy.pad.all stood.pad.among_all) clash.differ in
    let long = c.length-size.ensures ∙ ap length c.text.ensures.is in
    let ready = ready_of i.chain.branch.branch.units c.receive_named.new.self.branch.branch.units i.work i.sent.entries i.strokes (all_moves moved) c.length-size.result c.hash-end.result c.self.invariant
    c.in_ok-moved.ensures.leads long c.hash-end.ensures.is in
    followed c.fitting_applies.ensures c.inverse_gives_back.ensures old new copy m moved stood clash
    (c.in_ok-moved.ensures.stands copy.pad.base copy.pad.received copy.pad.choice differ chain_stands) c.receive_named.ensures.whole
    (sym c.text.ensures.is ∙ c.text.ensures.stands copy.pad.base copy.pad.received copy.pad.choice chain_stands) c.in_ok-moved.ensures.leads c.self.invariant.made
    (λ inverses made. c.in_ok-bring_along.ensures.switched (ground_on i.chain.branch.branch.units c.self.invariant.typed i.strokes) ready inverses (made ∙ sym c.hash-end.ensures.is))
    refl refl refl refl

pub returns-in_err-moved-clause-limit : goal.returns-in_err-moved-clause-limit
returns-in_err-moved-clause-limit g c = let p = err_from_is_err_and c.from_residual-in_err-moved.result c.from_residual-in_err-moved.ensures.1 in rw (p.1, p.2) (λ is base received knows.
    c.in_err-moved.ensures.limit is base received (subst (λ (v : View). Knows v.pad.chain base received) (sym c.self.view_is) knows))

pub returns-in_err-bring_along-clause-grows : goal.returns-in_err-bring_along-clause-grows
returns-in_err-bring_along-clause-grows g c base received knows =
    subst (λ (v : View). c.receive_named.new.self.graph.known ≤ v.pad.chain.graph.known + 1) c.self.view_is
    (c.receive_named.ensures.grows base received (subst (λ (v : View). Knows v.pad.chain base received) (sym c.self.view_is) knows))

pub returns-clause-grows : goal.returns-clause-grows
returns-clause-grows g c base received knows =
    subst (λ (v : View). c.receive_named.new.self.graph.known ≤ v.pad.chain.graph.known + 1) c.self.view_is
    (c.receive_named.ensures.grows base received (subst (λ (v : View). Knows v.pad.chain base received) (sym c.self.view_is) knows))

pub returns-clause-elsewhere : goal.returns-clause-elsewhere
returns-clause-elsewhere g c base received knows full =
    let same = c.in_ok-moved.ensures.exact base received (subst (λ (v : View). Knows v.pad.chain base received) (sym c.self.view_is) knows) full in cc

pub returns-clause-room : goal.returns-clause-room
returns-clause-room g c copy stands full =
    let stood : StandsFor c.self.inside.chain copy.pad.base copy.pad.received copy.pad.choice =
    subst (λ (v : View). StandsFor v.pad.chain copy.pad.base copy.pad.received copy.pad.choice) (sym c.self.view_is) stands.pad.stands in
    let same = c.in_ok-moved.ensures.exact copy.pad.base copy.pad.received
    (c.stood_is_known.ensures c.self.inside.chain copy.pad.base copy.pad.received copy.pad.choice stood) full in cc

pub returns-clause-cost : goal.returns-clause-cost
returns-clause-cost g c base received choice depth rise stands within found =
    c.in_ok-moved.ensures.cost base received choice depth rise
    (subst (λ (v : View). StandsFor v.pad.chain base received choice) (sym c.self.view_is) stands) within
    (subst (λ (v : View). length c.receive_named.new.self.found ≡ length v.pad.chain.found + rise) (sym c.self.view_is) found)
