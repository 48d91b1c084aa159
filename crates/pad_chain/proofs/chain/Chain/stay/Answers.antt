use Rattle.std.proofs.Common.{◌≡◌, List, ◌++◌, reverse, refl, ap, ◌∙◌, subst}
use Rattle.std.proofs.lemmas.List.{reverse-append}
use Rattle.std.specs.BTreeMap.{get}
use Rattle.pad_text.specs.declared.name.Name.{Name}
use Rattle.pad_graph.specs.State.{name_cmp, state_of}
use Rattle.pad_chain.specs.State.{View}
use Rattle.pad_chain.specs.Inside.Receiving.{Stays, KeepsNames}
use Rattle.pad_chain.proofs.Noting.{noted_held}
use Rattle.pad_chain.proofs.Knowing.{keeps_same}
use Rattle.pad_chain.proofs.Received.{none_received}
use Rattle.pad_chain.proofs.chain.Chain.stay.Goals as goal

pub invariant_of-self-2 : goal.invariant_of-self-2
invariant_of-self-2 g c = noted_held (get name_cmp c.self.inside.messages) (get name_cmp c.note.new.messages) c.args.pathless (state_of c.self.inside.graph) c.note.ensures c.self.invariant

pub returns-clause-received : goal.returns-clause-received
returns-clause-received g c =
    let i = c.self.inside in
    let old : View = record { graph = i.graph; pruning = i.pruning; messages = i.messages.entries; branch = i.branch; found = reverse i.found.items; whole = i.whole } in
    let new : View = record old { messages = c.note.new.messages.entries; found = reverse c.add_found.new.found.items } in
    let added : reverse c.add_found.new.found.items ≡ reverse c.args.found.items ++ reverse i.found.items =
    ap reverse c.add_found.ensures ∙ reverse-append c.reserve.new.self.items c.args.found.items ∙ ap (λ (xs : List Name). reverse c.args.found.items ++ reverse xs) c.in_ok-reserve.ensures.items in
    subst (λ (v : View). Stays v new c.args.pathless (reverse c.args.found.items) c.none.result) c.self.view_is
    (λ before b R m choice linkings out best.
    none_received before old b R m choice linkings out.joining out.ready c.args.pathless (reverse c.args.found.items ++ before.found) out.knows out.are new c.none.result refl (added ∙ ap (λ (xs : List Name). reverse c.args.found.items ++ xs) out.joining.found)
    c.repeat_changes_no_choice.ensures best c.note.ensures refl refl refl c.none.ensures.reverted c.none.ensures.applied)

pub returns-clause-links : goal.returns-clause-links
returns-clause-links g c =
    let i = c.self.inside in
    let old : View = record { graph = i.graph; pruning = i.pruning; messages = i.messages.entries; branch = i.branch; found = reverse i.found.items; whole = i.whole } in
    let new : View = record old { messages = c.note.new.messages.entries; found = reverse c.add_found.new.found.items } in
    subst (λ (v : View). KeepsNames v new) c.self.view_is (keeps_same old new refl)

pub returns-clause-none : goal.returns-clause-none
returns-clause-none g c = record { left = c.none.ensures.reverted; came = c.none.ensures.applied }

pub returns-clause-branch : goal.returns-clause-branch
returns-clause-branch g c = ap (λ (v : View). v.branch) c.self.view_is

pub returns-clause-found : goal.returns-clause-found
returns-clause-found g c =
    ap reverse c.add_found.ensures ∙ reverse-append c.reserve.new.self.items c.args.found.items ∙ ap (λ (xs : List Name). reverse c.args.found.items ++ reverse xs) c.in_ok-reserve.ensures.items ∙ ap (λ (v : View). reverse c.args.found.items ++ v.found) c.self.view_is
