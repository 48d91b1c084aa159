-- What a graph stands for: the links added, the newest first, and a root, which is a chain of them.
use Rattle.std.specs.Prelude.{◌≡◌, ◌≢◌, ◌↔◌, ◌⊎◌, ℕ, List, [], ◌∷◌, ◌++◌, length, map, Contains, Option, Some, MatchOption}
use Rattle.pad_text.specs.declared.name.Name.{Name}
use Rattle.pad_graph.specs.declared.linking.Linking.{Linking}
use Rattle.pad_graph.specs.declared.last.Last.{Last}
use Rattle.pad_graph.specs.declared.node.Node.{Node}
use Rattle.pad_graph.specs.declared.node.Mark.{Mark}
use Rattle.pad_graph.specs.declared.standing.Standing.{Standing}
use Rattle.pad_graph.specs.declared.standing.Standing.TheVariants.{Unknown, Waiting, Linked, Gone}
use Rattle.pad_graph.specs.Chain.{Link, top, IsChain, IsKeptName, IsGoneName, IsAddedName, IsWaitingName, BecomesLinked}
use Rattle.pad_list.specs.Number.{NoRepeat, IsNumberOf}
use Rattle.pad_graph.specs.State.{State, standing, marked_as}

-- no name was added twice
abbrev pub LinksDiffer : List Link → Type 0
LinksDiffer links = NoRepeat (map (λ link. link.name) links)

-- the name is neither the base's nor was it added
abbrev pub IsNewName : Name → List Link → Name → Type 0
IsNewName base links name = (name ≢ base) × ¬ (IsAddedName links name)

-- the name stands so
abbrev pub IsStanding : Name → List Link → List Name → Name → Standing → Type 0
IsStanding base links root name Unknown = IsNewName base links name
IsStanding base links root name Waiting = IsWaitingName base links name
IsStanding base links root name (Linked height) = IsKeptName base links root name height
IsStanding base links root name (Gone height) = IsGoneName base links root name height

-- the name is linked through the root
abbrev pub IsKept : Name → List Link → List Name → Name → Type 0
IsKept base links root name = (height : ℕ) × IsKeptName base links root name height

-- no chain ends in the name, or one through the root
abbrev pub IsNotGone : Name → List Link → List Name → Name → Type 0
IsNotGone base links root name = (height : ℕ) → ¬ (IsGoneName base links root name height)

-- the parent with which the name was added, if it is not gone
abbrev pub IsParentOf : Name → List Link → List Name → Name → Option Name → Type 0
IsParentOf base links root name told =
    MatchOption told (IsAddedName links name → (height : ℕ) × IsGoneName base links root name height) (λ parent. Contains links (record { name = name; parent = parent }) × IsNotGone base links root name)

-- the names that were added on a name that is not gone; each once
pub record AreChildren (base : Name) (links : List Link) (root : List Name) (children : Name → List Name) : Type 0 where
  pub once : (parent : Name) → NoRepeat (children parent)
  pub only : (parent name : Name) → Contains (children parent) name → Contains links (record { name = name; parent = parent })
  pub every : (parent name : Name) → Contains links (record { name = name; parent = parent }) → IsNotGone base links root parent → Contains (children parent) name

-- these become linked as the link comes, each once
pub record AreNewlyLinked (base : Name) (links : List Link) (link : Link) (linked : List Linking) : Type 0 where
  pub once : NoRepeat (map (λ linking. linking.name) linked)
  pub these : (linking : Linking) → Contains linked linking ↔ BecomesLinked base links link linking.name linking.height

-- these become linked as the link comes, and are marked so
pub record AreFound (base : Name) (links : List Link) (root : List Name) (link : Link) (mark : Mark) (found : List Linking) : Type 0 where
  pub newly : AreNewlyLinked base links link found
  pub stand : (linking : Linking) → Contains found linking → IsStanding base (link ∷ links) root linking.name (marked_as mark linking.height)

-- what was added last can be taken back
pub record IsLast (base : Name) (links : List Link) (root : List Name) (children : Name → List Name) (linked : List Linking) (last : Last) : Type 0 where
  pub older : List Link
  pub parent : Name
  pub whole : links ≡ record { name = last.name; parent = parent } ∷ older
  pub rooted : IsChain base older root
  pub before : List Name
  pub child : children parent ≡ before ++ last.name ∷ []
  pub every : (other name : Name) → Contains links (record { name = name; parent = other }) → IsNotGone base older root other → Contains (children other) name
  pub newly : AreNewlyLinked base older (record { name = last.name; parent = parent }) linked
  pub waiting : IsNumberOf (IsWaitingName base older) last.waiting
  pub kept : IsNumberOf (IsKept base older root) last.kept

-- the graph stands for these links and this root
pub record Stands (state : State) (base : Name) (links : List Link) (root : List Name) : Type 0 where
  pub differ : LinksDiffer links
  pub not_base : (link : Link) → Contains links link → link.name ≢ base
  pub rooted : IsChain base links root
  pub at_root : state.root ≡ top base root
  pub standings : (name : Name) → IsStanding base links root name (standing state name)
  pub parents : (name : Name) (node : Node) → state.node name ≡ Some node → (name ≡ base) ⊎ Contains links (record { name = name; parent = node.parent })
  pub children : AreChildren base links root state.children
  pub known : state.known ≡ length links
  pub waiting : IsNumberOf (IsWaitingName base links) state.waiting
  pub kept : IsNumberOf (IsKept base links root) state.kept
  pub undo : (last : Last) → state.last ≡ Some last → IsLast base links root state.children state.linked last

-- these are linked through the root `below`, and not through the root `names`; each once
pub record AreDropped (base : Name) (links : List Link) (below names : List Name) (dropped : List Linking) : Type 0 where
  pub once : NoRepeat (map (λ linking. linking.name) dropped)
  pub these : (linking : Linking) → Contains dropped linking ↔ (IsKeptName base links below linking.name linking.height × IsGoneName base links names linking.name linking.height)

-- a message that is dropped, as the root rises from `below` to `names`
abbrev pub IsDropped : Name → List Link → List Name → List Name → Name → Type 0
IsDropped base links below names name = (name ≢ base) × ((height : ℕ) × IsKeptName base links below name height × IsGoneName base links names name height)
