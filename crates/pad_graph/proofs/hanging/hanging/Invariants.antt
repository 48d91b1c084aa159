use Rattle.std.proofs.Common.{◌+◌, ◌≤◌, List, Contains}
use Rattle.std.specs.BTreeMap.{get}
use Rattle.pad_text.specs.declared.name.Name.{Name}
use Rattle.pad_graph.specs.declared.linking.Linking.{Linking}
use Rattle.pad_graph.specs.Inside.Tables.{names_in}
use Rattle.pad_graph.specs.Inside.Hanging.{IsForest}
use Rattle.pad_graph.proofs.Spreading.{Spreads}
use Rattle.pad_graph.proofs.hanging.hanging.Given as goal
use Rattle.pad_graph.specs.State.{name_cmp}

abbrev pub invariant-loop-at : goal.invariant-loop-at
invariant-loop-at l = record {
  low : (linking : Linking) → Contains l.found.items linking → linking.height ≤ l.fn.first.height + l.at;
  spreads : (all : List Name) → IsForest (λ name. names_in (get name_cmp l.children name)) l.fn.first.name l.stop all l.limit → Spreads (λ name. names_in (get name_cmp l.children name)) l.fn.first l.stop l.found.items l.at;
}
