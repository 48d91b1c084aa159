use Rattle.std.proofs.Common.{[], take, add-one, sym, ap, ◌∙◌, subst}
use Rattle.std.proofs.Math.Seq.{take-suc}
use Rattle.std.specs.BTreeMap.{get}
use Rattle.pad_graph.specs.State.{name_cmp}
use Rattle.pad_branch.specs.Inside.Passing.{MarksNames}
use Rattle.pad_branch.proofs.Marking.{marked_already, newly_marked}
use Rattle.pad_branch.proofs.passing.with_names.Goals as goal

pub loop-child-preserved-then-is_pathless : goal.loop-child-preserved-then-is_pathless
loop-child-preserved-then-is_pathless c =
    let turn = ap (λ k. take k c.args.names.now) (add-one c.loop-child.child-index) ∙ take-suc c.args.names.now c.loop-child.child-index (record { 0 = [] }) c.loop-child-test.true in
    subst (λ ns. MarksNames (get name_cmp c.args.messages.now) ns c.args.level.pathless c.args.level.names.items c.loop-child.pathless c.loop-child.next.items) (sym turn)
    (marked_already (get name_cmp c.args.messages.now) _ _ _ _ _ c.loop-child.invariant _ (sym c.if-is_pathless.ensures))

pub loop-child-preserved : goal.loop-child-preserved
loop-child-preserved c =
    let turn = ap (λ k. take k c.args.names.now) (add-one c.loop-child.child-index) ∙ take-suc c.args.names.now c.loop-child.child-index (record { 0 = [] }) c.loop-child-test.true in
    subst (λ ns. MarksNames (get name_cmp c.args.messages.now) ns c.args.level.pathless c.args.level.names.items c.insert.new.self c.push.new.self.items) (sym turn)
    (newly_marked (get name_cmp c.args.messages.now) _ _ _ _ _ c.loop-child.invariant _ c.insert.new.self c.push.new.self.items c.in_ok-insert.ensures.updates c.in_ok-push.ensures.items)
