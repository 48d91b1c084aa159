use Rattle.std.proofs.Common.{reverse, Some, false, Result, Ok, Err, OnErr, refl, subst}
use Rattle.std.specs.BTreeMap.{get}
use Rattle.pad_graph.specs.declared.added.Added.TheVariants.{Waiting}
use Rattle.pad_message.specs.Message.{name_of}
use Rattle.pad_graph.specs.State.{name_cmp}
use Rattle.pad_chain.specs.State.{View, held_of}
use Rattle.pad_chain.specs.Inside.Tables.{IsPut}
use Rattle.pad_chain.specs.Receive.{KeepsBranch, KeepsHeld}
use Rattle.pad_chain.specs.Inside.Receiving.{Receives, Refuses, KeepsNames, UndoesName}
use Rattle.pad_chain.proofs.Arms.{waiting_received, put_held, same_held}
use Rattle.pad_chain.proofs.Adding.{refused_hold}
use Rattle.pad_chain.proofs.Ground.{held_same}
use Rattle.pad_chain.proofs.Knowing.{keeps_same}
use Rattle.pad_chain.proofs.chain.Chain.wait.Goals as goal

on_err : {A E : Type 0} {P : Type 0} (r : Result A E) → P → OnErr r P
on_err (Ok x) h = tt
on_err (Err e) h = h

pub invariant_of-self : goal.invariant_of-self
invariant_of-self g c = same_held (get name_cmp c.self.inside.messages) (get name_cmp c.hold_added.new.messages) c.in_err-hold_added.ensures.same c.self.invariant

pub invariant_of-self-2 : goal.invariant_of-self-2
invariant_of-self-2 g c = put_held (get name_cmp c.self.inside.messages) (get name_cmp c.hold_added.new.messages) c.args.name c.args.message c.in_ok-hold_added.ensures.held c.requires.interval c.requires.named c.self.invariant

pub returns-clause-received : goal.returns-clause-received
returns-clause-received g c =
    let i = c.self.inside in
    let m = c.args.message in
    let old : View = record { graph = i.graph; pruning = i.pruning; messages = i.messages.entries; branch = i.branch; found = reverse i.found.items; whole = i.whole } in
    let new : View = record old { graph = c.hold_added.new.graph; messages = c.hold_added.new.messages.entries } in
    let put : IsPut (held_of old) (held_of new) (name_of m) (Some (record { message = m; pathless = false })) = subst (λ n. IsPut (held_of old) (held_of new) n (Some (record { message = m; pathless = false }))) c.requires.named c.in_ok-hold_added.ensures.held in
    subst (λ (v : View). Receives v new m Waiting c.none.result) c.self.view_is
    (λ before b R choice d a. waiting_received (record old { graph = before }) old b R m choice new c.none.result c.none.ensures.reverted c.none.ensures.applied c.stays_chosen.ensures c.nothing_links.ensures c.found_stays.ensures c.trunk_stays.ensures a d put c.in_ok-hold_added.ensures.graph refl refl refl refl)

pub returns-in_err-hold_added-clause-refused : goal.returns-in_err-hold_added-clause-refused
returns-in_err-hold_added-clause-refused g c =
    let i = c.self.inside in
    let m = c.args.message in
    let old : View = record { graph = i.graph; pruning = i.pruning; messages = i.messages.entries; branch = i.branch; found = reverse i.found.items; whole = i.whole } in
    let new : View = record old { graph = c.hold_added.new.graph; messages = c.hold_added.new.messages.entries } in
    on_err c.from_residual.result (subst (λ (v : View). Refuses v new m Waiting) c.self.view_is
    (λ before b R choice a. refused_hold (record old { graph = before }) b R m choice old new Waiting a refl c.in_err-hold_added.ensures.undone c.in_err-hold_added.ensures.same refl refl refl refl))

pub returns-clause-links : goal.returns-clause-links
returns-clause-links g c =
    let i = c.self.inside in
    let old : View = record { graph = i.graph; pruning = i.pruning; messages = i.messages.entries; branch = i.branch; found = reverse i.found.items; whole = i.whole } in
    let new : View = record old { graph = c.hold_added.new.graph; messages = c.hold_added.new.messages.entries } in
    subst (λ (v : View). KeepsNames v new) c.self.view_is (keeps_same old new c.in_ok-hold_added.ensures.graph)

pub returns-in_err-hold_added-clause-undone : goal.returns-in_err-hold_added-clause-undone
returns-in_err-hold_added-clause-undone g c =
    let i = c.self.inside in
    let old : View = record { graph = i.graph; pruning = i.pruning; messages = i.messages.entries; branch = i.branch; found = reverse i.found.items; whole = i.whole } in
    let new : View = record old { graph = c.hold_added.new.graph; messages = c.hold_added.new.messages.entries } in
    on_err c.from_residual.result (subst (λ (v : View). UndoesName v new) c.self.view_is c.in_err-hold_added.ensures.undone)

pub returns-clause-none : goal.returns-clause-none
returns-clause-none g c = record { left = c.none.ensures.reverted; came = c.none.ensures.applied }

pub returns-clause-same : goal.returns-clause-same
returns-clause-same g c =
    let i = c.self.inside in
    let old : View = record { graph = i.graph; pruning = i.pruning; messages = i.messages.entries; branch = i.branch; found = reverse i.found.items; whole = i.whole } in
    let new : View = record old { graph = c.hold_added.new.graph; messages = c.hold_added.new.messages.entries } in
    subst (λ (v : View). KeepsBranch v new) c.self.view_is (record { pruning = refl; branch = refl; found = refl; whole = refl })

pub returns-in_err-hold_added-clause-same : goal.returns-in_err-hold_added-clause-same
returns-in_err-hold_added-clause-same g c =
    let i = c.self.inside in
    let old : View = record { graph = i.graph; pruning = i.pruning; messages = i.messages.entries; branch = i.branch; found = reverse i.found.items; whole = i.whole } in
    let new : View = record old { graph = c.hold_added.new.graph; messages = c.hold_added.new.messages.entries } in
    subst (λ (v : View). KeepsBranch v new) c.self.view_is (record { pruning = refl; branch = refl; found = refl; whole = refl })

pub returns-in_err-hold_added-clause-held : goal.returns-in_err-hold_added-clause-held
returns-in_err-hold_added-clause-held g c =
    let i = c.self.inside in
    let old : View = record { graph = i.graph; pruning = i.pruning; messages = i.messages.entries; branch = i.branch; found = reverse i.found.items; whole = i.whole } in
    let new : View = record old { graph = c.hold_added.new.graph; messages = c.hold_added.new.messages.entries } in
    on_err c.from_residual.result (subst (λ (v : View). KeepsHeld v new c.args.name) c.self.view_is (held_same old new c.args.name c.in_err-hold_added.ensures.same))
