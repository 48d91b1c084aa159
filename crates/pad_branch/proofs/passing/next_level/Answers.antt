use Rattle.std.proofs.Common.{[], take, get_or, add-one, sym, ap, ◌∙◌, subst}
use Rattle.std.specs.BTreeMap.{get}
use Rattle.std.proofs.Math.Seq.{take-suc}
use Rattle.pad_text.specs.declared.name.Name.{Name}
use Rattle.pad_graph.specs.State.{name_cmp, state_of}
use Rattle.pad_branch.specs.Inside.Passing.{MarksChildren}
use Rattle.pad_branch.proofs.Levels.{below_next}
use Rattle.pad_branch.proofs.passing.next_level.Goals as goal

pub loop-parent-preserved : goal.loop-parent-preserved
loop-parent-preserved c =
    let p : Name = get_or c.args.over.now c.loop-parent.parent-index (record { 0 = [] }) in
    let turn = ap (λ k. take k c.args.over.now) (add-one c.loop-parent.parent-index) ∙ take-suc c.args.over.now c.loop-parent.parent-index (record { 0 = [] }) c.loop-parent-test.true in
    subst (λ ns. MarksChildren (get name_cmp c.args.messages.now) (state_of c.args.graph.now).children ns c.args.pathless c.in_ok-level.level.pathless c.in_ok-level.level.names.items) (sym turn)
    (below_next (get name_cmp c.args.messages.now) (state_of c.args.graph.now).children _ _ c.loop-parent.level.pathless c.in_ok-level.level.pathless c.loop-parent.level.names.items c.in_ok-level.level.names.items c.children.result.now p (sym c.children.ensures) c.loop-parent.invariant c.in_ok-level.ensures)
