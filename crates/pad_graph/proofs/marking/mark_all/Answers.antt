use Rattle.std.proofs.Common.{[], take, get_or, add-one, sym, ap, ◌∙◌}
use Rattle.std.proofs.Math.Seq.{take-suc}
use Rattle.std.specs.BTreeMap.{get}
use Rattle.pad_graph.specs.declared.linking.Linking.{Linking}
use Rattle.pad_graph.specs.Inside.Tables.{marked}
use Rattle.pad_graph.proofs.Loops.{marked_next}
use Rattle.pad_graph.proofs.marking.mark_all.Goals as goal
use Rattle.pad_graph.specs.State.{name_cmp}

pub loop-linking-preserved : goal.loop-linking-preserved
loop-linking-preserved c q =
    let none : Linking = record { height = 0; name = record { 0 = [] } } in
    let turn = ap (λ k. take k c.args.linkings.now) (add-one c.loop-linking.linking-index) ∙ take-suc c.args.linkings.now c.loop-linking.linking-index none c.loop-linking-test.true in
    marked_next c.args.mark (get name_cmp c.args.nodes.now) (get name_cmp c.loop-linking.nodes) (get name_cmp c.mark_one.new.nodes) (take c.loop-linking.linking-index c.args.linkings.now) (get_or c.args.linkings.now c.loop-linking.linking-index none) c.mark_one.ensures c.loop-linking.invariant q
    ∙ ap (λ ls. marked c.args.mark (get name_cmp c.args.nodes.now) ls q) (sym turn)
