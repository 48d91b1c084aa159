-- What contracts see of a graph.
use Rattle.std.specs.Prelude.{⊤, ℕ, List, [], Option, Some, None}
use Rattle.std.specs.declared.cmp.Ordering.{Ordering}
use Rattle.std.specs.Ordering.{nat_cmp}
use Rattle.std.specs.Cmp.Lexicographic.{slice_cmp}
use Rattle.std.specs.Option.{option_map}
use Rattle.std.specs.Map.{lookup}
use Rattle.std.specs.BTreeMap.{is_at}
use Rattle.pad_text.specs.declared.name.Name.{Name}
use Rattle.pad_graph.specs.declared.linking.Linking.{Linking}
use Rattle.pad_graph.specs.declared.last.Last.{Last}
use Rattle.pad_graph.specs.declared.node.Node.{Node}
use Rattle.pad_graph.specs.declared.node.Mark.{Mark}
use Rattle.pad_graph.specs.declared.node.Mark.TheVariants as mark
use Rattle.pad_graph.specs.declared.standing.Standing.{Standing}
use Rattle.pad_graph.specs.declared.standing.Standing.TheVariants.{Unknown, Waiting, Linked, Gone}

-- the order of names by their bytes
abbrev pub name_cmp : Name → Name → Ordering
name_cmp name other = slice_cmp nat_cmp name.0 other.0

-- how a name stands that is marked at the height
abbrev pub marked_as : Mark → ℕ → Standing
marked_as mark.Waiting height = Waiting
marked_as mark.Linked height = Linked height
marked_as mark.Gone height = Gone height

-- the tables of a graph, its counts, and what was added and dropped last
pub record Tables : Type 0 where
  pub nodes : List (Name × Node)
  pub children : List (Name × List Name)
  pub root : Name
  pub known : ℕ
  pub waiting : ℕ
  pub kept : ℕ
  pub last : Option Last
  pub linked : List Linking
  pub dropped : List Linking

-- the nodes of the names that are known, the names that were added on each name, the root's name, the counts, the message
-- that was added last with those that became linked with it, and those that were dropped last
pub record State : Type 0 where
  pub node : Name → Option Node
  pub children : Name → List Name
  pub root : Name
  pub known : ℕ
  pub waiting : ℕ
  pub kept : ℕ
  pub last : Option Last
  pub linked : List Linking
  pub dropped : List Linking

-- the names of an entry; none where there is no entry
abbrev pub names_at : Option (List Name) → List Name
names_at None = []
names_at (Some names) = names

-- what the tables say
abbrev pub state_of : Tables → State
state_of graph = record {
  node = λ name. lookup (is_at (name_cmp name)) graph.nodes;
  children = λ name. names_at (lookup (is_at (name_cmp name)) graph.children);
  root = graph.root;
  known = graph.known;
  waiting = graph.waiting;
  kept = graph.kept;
  last = graph.last;
  linked = graph.linked;
  dropped = graph.dropped;
}

-- how a name stands, by its node
abbrev pub standing_of : Option Node → Standing
standing_of None = Unknown
standing_of (Some node) = node.standing

-- how a name stands
abbrev pub standing : State → Name → Standing
standing state name = standing_of (state.node name)

-- the name of the message that was added last, if nothing has changed since
abbrev pub last_added : State → Option Name
last_added state = option_map (λ last. last.name) state.last

-- it is linked through the root
abbrev pub IsHeld : Standing → Type 0
IsHeld Unknown = ⊥
IsHeld Waiting = ⊥
IsHeld (Linked height) = ⊤
IsHeld (Gone height) = ⊥
