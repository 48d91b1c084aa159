use Rattle.std.proofs.Common.{List, [], cond, take, get_or, add-one, sym, ap, ◌∙◌}
use Rattle.std.proofs.Math.Seq.{take-suc}
use Rattle.std.specs.BTreeMap.{get}
use Rattle.pad_text.specs.declared.name.Name.{Name}
use Rattle.pad_graph.specs.declared.linking.Linking.{Linking}
use Rattle.pad_graph.specs.Inside.Tables.{names_in, is_among}
use Rattle.pad_graph.proofs.Loops.{forgot_next}
use Rattle.pad_graph.proofs.marking.forget_all.Goals as goal
use Rattle.pad_graph.specs.State.{name_cmp}

pub loop-linking-preserved : goal.loop-linking-preserved
loop-linking-preserved c q =
    let none : Linking = record { height = 0; name = record { 0 = [] } } in
    let turn = ap (λ k. take k c.args.linkings.now) (add-one c.loop-linking.linking-index) ∙ take-suc c.args.linkings.now c.loop-linking.linking-index none c.loop-linking-test.true in
    forgot_next c.args.children.now c.loop-linking.children c.remove.new.self (take c.loop-linking.linking-index c.args.linkings.now) (get_or c.args.linkings.now c.loop-linking.linking-index none) c.remove.ensures.updates c.loop-linking.invariant q
    ∙ ap (λ ls. cond {A = List Name} (is_among ls q) [] (names_in (get name_cmp c.args.children.now q))) (sym turn)
