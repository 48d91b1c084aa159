use Rattle.std.proofs.Common.{sym, ap, ◌∙◌}
use Rattle.std.specs.BTreeMap.{get}
use Rattle.pad_graph.specs.State.{name_cmp, state_of}
use Rattle.pad_chain.specs.Inside.Tables.{is_linked}
use Rattle.pad_chain.proofs.Noting.{note_linked, note_other, not_linked}
use Rattle.pad_chain.proofs.tables.mark_linked.Goals as goal

pub returns-in-Linked : goal.returns-in-Linked
returns-in-Linked c =
    note_linked (get name_cmp c.args.messages.now) (get name_cmp c.mark.new.messages) c.args.name (state_of c.args.graph.now) (ap is_linked (sym c.standing.ensures.is ∙ c.in-Linked.is)) c.mark.ensures

pub returns-in_default : goal.returns-in_default
returns-in_default c =
    note_other (get name_cmp c.args.messages.now) c.args.name (state_of c.args.graph.now) (ap is_linked (sym c.standing.ensures.is) ∙ not_linked c.standing.result c.in_default.not-Linked)
