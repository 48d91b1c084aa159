use Rattle.std.proofs.Common.{sym, ap, ◌∙◌}
use Rattle.pad_graph.specs.State.{state_of, name_cmp}
use Rattle.std.specs.BTreeMap.{is_at}
use Rattle.pad_graph.proofs.Fields.{names_listed}
use Rattle.pad_graph.proofs.graph.Graph.children.Goals as goal

pub returns : goal.returns
returns c = c.names_of.ensures ∙ sym (names_listed (is_at (name_cmp c.args.name.now)) c.self.inside.children.entries) ∙ ap (λ t. (state_of t).children c.args.name.now) c.self.view_is
