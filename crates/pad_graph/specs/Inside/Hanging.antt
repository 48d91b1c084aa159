-- What hangs on a name.
use Rattle.std.specs.Prelude.{◌≡◌, ◌≢◌, ◌≤◌, ◌+◌, ⊤, ℕ, List, [], ◌∷◌, length, map, cond, Contains}
use Rattle.std.specs.Ordering.{is_eq}
use Rattle.pad_text.specs.declared.name.Name.{Name}
use Rattle.pad_graph.specs.declared.linking.Linking.{Linking}
use Rattle.pad_graph.specs.Chain.{top}
use Rattle.pad_list.specs.Number.{NoRepeat}
use Rattle.pad_graph.specs.State.{name_cmp}

-- linkings at this height, of each of the names but `stop`
abbrev pub linkings_of : Name → ℕ → List Name → List Linking
linkings_of stop height [] = []
linkings_of stop height (name ∷ names) = cond (is_eq (name_cmp name stop)) (linkings_of stop height names) (record { height = height; name = name } ∷ linkings_of stop height names)

-- each name is a child of the one below it, the lowest of `first`, and none is `stop`; the newest first
abbrev pub IsBranch : (Name → List Name) → Name → Name → List Name → Type 0
IsBranch children first stop [] = ⊤
IsBranch children first stop (name ∷ names) = Contains (children (top first names)) name × (name ≢ stop) × IsBranch children first stop names

-- each name has one parent, and what hangs on `first` is among `all`, which are at most `limit`
pub record IsForest (children : Name → List Name) (first stop : Name) (all : List Name) (limit : ℕ) : Type 0 where
  pub once : (parent : Name) → NoRepeat (children parent)
  pub one_parent : (parent other name : Name) → Contains (children parent) name → Contains (children other) name → parent ≡ other
  pub lowest : (names : List Name) → IsBranch children first stop names → ¬ (Contains (children (top first names)) first)
  pub among : (names : List Name) → IsBranch children first stop names → Contains all (top first names)
  pub few : length all ≤ limit

-- the name of the linking hangs on the first one, higher by the number of names between
abbrev pub Hangs : (Name → List Name) → Linking → Name → Linking → Type 0
Hangs children first stop linking =
    (names : List Name) × IsBranch children first.name stop names × (top first.name names ≡ linking.name) × (linking.height ≡ first.height + length names)

-- these are what hangs on the first one, each once
pub record AreHanging (children : Name → List Name) (first : Linking) (stop : Name) (found : List Linking) : Type 0 where
  pub once : NoRepeat (map (λ linking. linking.name) found)
  pub each : (linking : Linking) → Contains found linking → Hangs children first stop linking
  pub every : (names : List Name) → IsBranch children first.name stop names → Contains found (record { height = first.height + length names; name = top first.name names })
