use Rattle.std.proofs.Common.{[], take, get_or, add-one, sym, ap, ◌∙◌, subst}
use Rattle.std.proofs.Math.Seq.{take-suc}
use Rattle.std.specs.BTreeMap.{get}
use Rattle.pad_graph.specs.declared.linking.Linking.{Linking}
use Rattle.pad_graph.specs.State.{name_cmp}
use Rattle.pad_chain.specs.Inside.Tables.{AreLetGo}
use Rattle.pad_chain.proofs.Entries.{let_go_next}
use Rattle.pad_chain.proofs.tables.let_go.Goals as goal

pub loop-linking-preserved : goal.loop-linking-preserved
loop-linking-preserved c =
    let none : Linking = record { height = 0; name = record { 0 = [] } } in
    let turn = ap (λ k. take k c.args.linkings.now) (add-one c.loop-linking.linking-index) ∙ take-suc c.args.linkings.now c.loop-linking.linking-index none c.loop-linking-test.true in
    subst (AreLetGo (get name_cmp c.args.messages.now) (get name_cmp c.remove.new.self)) (sym turn)
    (let_go_next (get name_cmp c.args.messages.now) c.loop-linking.messages c.remove.new.self (take c.loop-linking.linking-index c.args.linkings.now) (get_or c.args.linkings.now c.loop-linking.linking-index none) c.remove.ensures.updates c.loop-linking.invariant)
