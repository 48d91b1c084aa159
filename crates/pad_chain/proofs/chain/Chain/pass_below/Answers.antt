use Rattle.std.proofs.Common.{reverse, refl, ap, ◌∙◌, subst}
use Rattle.std.specs.BTreeMap.{get}
use Rattle.pad_graph.specs.declared.added.Added.TheVariants.{Below}
use Rattle.pad_graph.specs.State.{name_cmp}
use Rattle.pad_chain.specs.State.{View, held_of}
use Rattle.pad_chain.specs.Inside.Tables.{AreLetGo}
use Rattle.pad_chain.specs.Inside.Receiving.{Receives, KeepsNames}
use Rattle.pad_chain.proofs.Knowing.{keeps_same}
use Rattle.pad_chain.proofs.Ends.{end_place}
use Rattle.pad_chain.proofs.Arms.{below_received, let_go_held}
use Rattle.pad_chain.proofs.chain.Chain.pass_below.Goals as goal

pub invariant_of-self : goal.invariant_of-self
invariant_of-self g c = let_go_held (get name_cmp c.self.inside.messages) (get name_cmp c.let_go.new.messages) c.as_slice.result.now c.let_go.ensures c.self.invariant

pub returns-clause-received : goal.returns-clause-received
returns-clause-received g c m =
    let i = c.self.inside in
    let old : View = record { graph = i.graph; pruning = i.pruning; messages = i.messages.entries; branch = i.branch; found = reverse i.found.items; whole = i.whole } in
    let new : View = record old { pruning = c.count_below.new.self; messages = c.let_go.new.messages.entries } in
    subst (λ (v : View). Receives v new m (Below c.args.below.now) c.none.result) c.self.view_is
    (λ before b R choice d a.
    let counted = c.count_below.ensures.overtook b R m choice a.stood.links d a.stood.are_links a.told (c.end_of-best.ensures ∙ end_place b R (record old { graph = before }) choice a.stood) in
    below_received (record old { graph = before }) old b R m choice new c.none.result c.none.ensures.reverted c.none.ensures.applied c.stays_chosen.ensures c.found_stays.ensures c.trunk_stays.ensures c.stays_known.ensures c.args.below.now a d c.knows_few.ensures counted.0 counted.1 counted.2
    (subst (AreLetGo (held_of old) (held_of new)) c.as_slice.ensures c.let_go.ensures) refl refl (ap (λ p. p.root) c.count_below.ensures.counted) refl refl)

pub returns-clause-links : goal.returns-clause-links
returns-clause-links g c =
    let i = c.self.inside in
    let old : View = record { graph = i.graph; pruning = i.pruning; messages = i.messages.entries; branch = i.branch; found = reverse i.found.items; whole = i.whole } in
    let new : View = record old { pruning = c.count_below.new.self; messages = c.let_go.new.messages.entries } in
    subst (λ (v : View). KeepsNames v new) c.self.view_is (keeps_same old new refl)

pub returns-clause-none : goal.returns-clause-none
returns-clause-none g c = record { left = c.none.ensures.reverted; came = c.none.ensures.applied }

pub returns-clause-branch : goal.returns-clause-branch
returns-clause-branch g c = ap (λ (v : View). v.branch) c.self.view_is

pub returns-clause-found : goal.returns-clause-found
returns-clause-found g c = ap (λ (v : View). v.found) c.self.view_is
