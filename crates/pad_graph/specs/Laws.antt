-- Laws of chains, and of graphs that stand for the same.
use Rattle.std.specs.Prelude.{◌≡◌, ◌⊎◌, ◌↔◌, List, ◌∷◌, ◌++◌}
use Rattle.pad_text.specs.declared.name.Name.{Name}
use Rattle.pad_graph.specs.Chain.{Link, top, IsChain, GoesThrough}
use Rattle.pad_graph.specs.State.{State, standing}
use Rattle.pad_graph.specs.Graph.{LinksDiffer, IsNewName, Stands}

-- two graphs that stand for the same links and root tell the same
pub record TellTheSame (one other : State) : Type 0 where
  pub standings : (name : Name) → standing one name ≡ standing other name
  pub root : one.root ≡ other.root
  pub known : one.known ≡ other.known
  pub waiting : one.waiting ≡ other.waiting
  pub kept : one.kept ≡ other.kept

abbrev pub GraphsTellTheSame : Type 0
GraphsTellTheSame = (one other : State) (base : Name) (links : List Link) (root : List Name) → Stands one base links root → Stands other base links root → TellTheSame one other

-- a name has one chain
abbrev pub ChainsAreOne : Type 0
ChainsAreOne = (base : Name) (links : List Link) (names others : List Name) → LinksDiffer links → IsChain base links names → IsChain base links others → top base names ≡ top base others → names ≡ others

-- the chain has the link on it, on top of the chain of its parent, and goes through the root exactly where that one does
pub record HasLink (base : Name) (links : List Link) (link : Link) (root names : List Name) : Type 0 where
  pub above : List Name
  pub below : List Name
  pub whole : names ≡ above ++ link.name ∷ below
  pub parent : top base below ≡ link.parent
  pub chain : IsChain base links below
  pub through : GoesThrough root names ↔ GoesThrough root below

-- a chain that is new as a link comes has that link on it
abbrev pub NewChainsHaveTheLink : Type 0
NewChainsHaveTheLink =
    (base : Name) (links : List Link) (link : Link) (root names : List Name) → IsChain base links root → IsNewName base links link.name → IsChain base (link ∷ links) names → IsChain base links names ⊎ HasLink base links link root names
