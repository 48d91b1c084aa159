-- what the names that are left make of the table now is what all of them make of it as it was
use Rattle.std.proofs.Common.{◌≡◌}
use Rattle.std.specs.BTreeMap.{get}
use Rattle.std.specs.BTreeSet.{btree_set_len}
use Rattle.pad_text.specs.declared.name.Name.{Name}
use Rattle.pad_graph.specs.State.{name_cmp, state_of}
use Rattle.pad_chain.proofs.Noting.{noted_at}
use Rattle.pad_chain.proofs.tables.note.Given as goal

abbrev pub invariant-loop-name : goal.invariant-loop-name
invariant-loop-name l = (q : Name) → noted_at (get name_cmp l.messages) l.names (state_of l.graph) q ≡ noted_at (get name_cmp l.initial.messages) l.initial.names (state_of l.graph) q

abbrev pub decreases-loop-name : goal.decreases-loop-name
decreases-loop-name l = btree_set_len l.names
