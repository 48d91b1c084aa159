-- The fields of a graph.
use Rattle.std.specs.Prelude.{◌≤◌, List, map}
use Rattle.pad_text.specs.declared.name.Name.{Name}
use Rattle.pad_graph.specs.declared.graph.Graph.TheInside.{Inside}
use Rattle.pad_graph.specs.declared.graph.TheConstants.{MOST_NAMES}
use Rattle.pad_graph.specs.Chain.{Link}
use Rattle.pad_graph.specs.State.{Tables, state_of}
use Rattle.pad_graph.specs.Graph.{Stands}

-- what contracts see of the fields
abbrev pub tables_of : Inside → Tables
tables_of graph = record {
  nodes = graph.nodes.entries;
  children = map (λ entry. (entry.0, entry.1.items)) graph.children.entries;
  root = graph.root;
  known = graph.known;
  waiting = graph.waiting;
  kept = graph.kept;
  last = graph.last;
  linked = graph.linked.items;
  dropped = graph.dropped.items;
}

-- some links were added, and not too many
pub record IsGraph (graph : Inside) : Type 0 where
  pub base : Name
  pub links : List Link
  pub root : List Name
  pub stands : Stands (state_of (tables_of graph)) base links root
  pub few : graph.known ≤ MOST_NAMES
