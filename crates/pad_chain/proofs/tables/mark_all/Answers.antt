use Rattle.std.proofs.Common.{[], take, get_or, add-one, sym, ap, ◌∙◌, subst}
use Rattle.std.proofs.Math.Seq.{take-suc}
use Rattle.std.specs.BTreeMap.{get}
use Rattle.pad_graph.specs.declared.linking.Linking.{Linking}
use Rattle.pad_graph.specs.State.{name_cmp}
use Rattle.pad_chain.specs.Inside.Tables.{AreMarked}
use Rattle.pad_chain.proofs.Entries.{marked_next}
use Rattle.pad_chain.proofs.tables.mark_all.Goals as goal

pub loop-linking-preserved : goal.loop-linking-preserved
loop-linking-preserved c =
    let none : Linking = record { height = 0; name = record { 0 = [] } } in
    let turn = ap (λ k. take k c.args.linkings.now) (add-one c.loop-linking.linking-index) ∙ take-suc c.args.linkings.now c.loop-linking.linking-index none c.loop-linking-test.true in
    subst (AreMarked (get name_cmp c.args.messages.now) (get name_cmp c.mark.new.messages)) (sym turn)
    (marked_next (get name_cmp c.args.messages.now) (get name_cmp c.loop-linking.messages) (get name_cmp c.mark.new.messages) (take c.loop-linking.linking-index c.args.linkings.now) (get_or c.args.linkings.now c.loop-linking.linking-index none) c.mark.ensures c.loop-linking.invariant)
