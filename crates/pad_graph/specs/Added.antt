-- What becomes of a message that is added.
use Rattle.std.specs.Prelude.{◌≡◌, ◌⊎◌, ℕ, List, ◌∷◌, map, Contains}
use Rattle.std.specs.declared.cmp.Ordering.{Ordering}
use Rattle.std.specs.Ordering.{nat_cmp, ordering_then}
use Rattle.std.specs.Cmp.Lexicographic.{slice_cmp}
use Rattle.std.specs.List.Sorted.{IsSorted}
use Rattle.pad_text.specs.declared.name.Name.{Name}
use Rattle.pad_graph.specs.declared.linking.Linking.{Linking}
use Rattle.pad_graph.specs.declared.added.Added.{Added}
use Rattle.pad_graph.specs.declared.added.Added.TheVariants as added
use Rattle.pad_graph.specs.declared.node.Mark.TheVariants.{Linked, Gone}
use Rattle.pad_graph.specs.Chain.{Link, IsAddedName, BecomesLinked}
use Rattle.pad_graph.specs.Graph.{IsNewName, AreFound}

-- the order of linkings: by height, and then by name
abbrev pub linking_cmp : Linking → Linking → Ordering
linking_cmp one other = ordering_then (nat_cmp one.height other.height) (slice_cmp nat_cmp one.name.0 other.name.0)

-- one of the linkings has the name
abbrev pub HasName : List Linking → Name → Type 0
HasName linkings name = Contains (map (λ linking. linking.name) linkings) name

-- known: the name is the base's, or was added. Waiting: nothing becomes linked. Otherwise these become linked, in order, the
-- message itself among them, each through the root, or none through it.
abbrev pub IsAdded : Name → List Link → List Name → Link → Added → Type 0
IsAdded base links root link added.Known = (link.name ≡ base) ⊎ IsAddedName links link.name
IsAdded base links root link added.Waiting = IsNewName base links link.name × ((name : Name) (height : ℕ) → ¬ (BecomesLinked base links link name height))
IsAdded base links root link (added.Linked linkings) = IsNewName base links link.name × AreFound base links root link Linked linkings × IsSorted linking_cmp linkings × HasName linkings link.name
IsAdded base links root link (added.Below linkings) = IsNewName base links link.name × AreFound base links root link Gone linkings × IsSorted linking_cmp linkings × HasName linkings link.name

-- the links after it: one more, if it was not known
abbrev pub links_after : Link → List Link → Added → List Link
links_after link links added.Known = links
links_after link links added.Waiting = link ∷ links
links_after link links (added.Linked linkings) = link ∷ links
links_after link links (added.Below linkings) = link ∷ links
