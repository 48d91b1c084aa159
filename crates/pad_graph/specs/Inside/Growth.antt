-- What a step does to what contracts see of a graph.
use Rattle.std.specs.Prelude.{◌≡◌, ◌+◌, ◌-◌, List, [], ◌∷◌, ◌++◌, length, cond, Option, Some}
use Rattle.std.specs.Ordering.{is_eq}
use Rattle.pad_text.specs.declared.name.Name.{Name}
use Rattle.pad_graph.specs.declared.linking.Linking.{Linking}
use Rattle.pad_graph.specs.declared.node.Node.{Node}
use Rattle.pad_graph.specs.declared.node.Mark.{Mark}
use Rattle.pad_graph.specs.declared.standing.Standing.TheVariants.{Waiting}
use Rattle.pad_graph.specs.Chain.{Link}
use Rattle.pad_graph.specs.Inside.Tables.{marked}
use Rattle.pad_graph.specs.State.{State, name_cmp}
use Rattle.pad_graph.specs.Inside.Marks.{kept_by}

-- the nodes with one more, which waits
abbrev pub with_link : (Name → Option Node) → Link → Name → Option Node
with_link old link q = cond (is_eq (name_cmp link.name q)) (Some (record { parent = link.parent; standing = Waiting })) (old q)

-- the link came in, and those found were marked
pub record Enters (old new : State) (link : Link) (mark : Mark) (found : List Linking) : Type 0 where
  pub node : (q : Name) → new.node q ≡ marked mark (with_link old.node link) found q
  pub children : (q : Name) → new.children q ≡ cond (is_eq (name_cmp link.parent q)) (old.children q ++ link.name ∷ []) (old.children q)
  pub root : new.root ≡ old.root
  pub known : new.known ≡ old.known + 1
  pub waiting : new.waiting ≡ old.waiting + 1 - length found
  pub kept : new.kept ≡ old.kept + kept_by mark (length found)
  pub last : new.last ≡ Some (record { name = link.name; waiting = old.waiting; kept = old.kept })
  pub linked : new.linked ≡ found
