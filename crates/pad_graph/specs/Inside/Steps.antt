-- What taking back and dropping do to what contracts see of a graph.
use Rattle.std.specs.Prelude.{◌≡◌, ◌+◌, ◌-◌, List, [], ◌∷◌, ◌++◌, length, cond, Option, None}
use Rattle.std.specs.Ordering.{is_eq}
use Rattle.pad_text.specs.declared.name.Name.{Name}
use Rattle.pad_graph.specs.declared.linking.Linking.{Linking}
use Rattle.pad_graph.specs.declared.last.Last.{Last}
use Rattle.pad_graph.specs.declared.node.Node.{Node}
use Rattle.pad_graph.specs.declared.node.Mark.TheVariants.{Waiting, Gone}
use Rattle.pad_graph.specs.Inside.Tables.{marked, is_among}
use Rattle.pad_graph.specs.State.{State, name_cmp}

-- the name that was added last was taken back
pub record Undoes (old new : State) (parent : Name) (before : Last) : Type 0 where
  pub node : (q : Name) → new.node q ≡ cond {A = Option Node} (is_eq (name_cmp before.name q)) None (marked Waiting old.node old.linked q)
  pub children : (q : Name) → old.children q ≡ cond (is_eq (name_cmp parent q)) (new.children q ++ before.name ∷ []) (new.children q)
  pub root : new.root ≡ old.root
  pub known : old.known ≡ new.known + 1
  pub waiting : new.waiting ≡ before.waiting
  pub kept : new.kept ≡ before.kept
  pub last : new.last ≡ None

-- those found were dropped, and the root rose
pub record Drops (old new : State) (name : Name) (found : List Linking) : Type 0 where
  pub node : (q : Name) → new.node q ≡ marked Gone old.node found q
  pub children : (q : Name) → new.children q ≡ cond {A = List Name} (is_among found q) [] (old.children q)
  pub root : new.root ≡ name
  pub known : new.known ≡ old.known
  pub waiting : new.waiting ≡ old.waiting
  pub kept : new.kept ≡ old.kept - length found
  pub last : new.last ≡ None
