use Rattle.std.proofs.Common.{◌∙◌}
use Rattle.std.specs.BTreeMap.{get}
use Rattle.pad_graph.specs.State.{name_cmp, state_of}
use Rattle.pad_chain.proofs.Noting.{note_next}
use Rattle.pad_chain.proofs.tables.note.Goals as goal

pub loop-name-preserved : goal.loop-name-preserved
loop-name-preserved c q =
    note_next (get name_cmp c.loop-name.messages) (get name_cmp c.mark_linked.new.messages) c.loop-name.names c.pop_first.new.self (state_of c.args.graph.now) c.in-Some.name c.in-Some.ensures.updates c.in-Some.ensures.member c.mark_linked.ensures q ∙ c.loop-name.invariant q
