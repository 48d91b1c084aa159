-- What a step does to the tables of a graph.
use Rattle.std.specs.Prelude.{◌≡◌, ◌++◌, ◌∷◌, ◌||◌, ℕ, List, [], Bool, false, Option, Some, None, cond, nat_lt, if◌then◌else◌}
use Rattle.std.specs.Ordering.{is_eq}
use Rattle.std.specs.Option.{option_map}
use Rattle.std.specs.declared.vec.Vec.{Vec}
use Rattle.std.specs.BTreeMap.{BTreeMap, get}
use Rattle.pad_text.specs.declared.name.Name.{Name}
use Rattle.pad_graph.specs.declared.linking.Linking.{Linking}
use Rattle.pad_graph.specs.declared.standing.Standing.{Standing}
use Rattle.pad_graph.specs.declared.standing.Standing.TheVariants.{Unknown, Waiting, Linked, Gone}
use Rattle.pad_graph.specs.declared.node.Node.{Node}
use Rattle.pad_graph.specs.declared.node.Mark.{Mark}
use Rattle.pad_graph.specs.State.{name_cmp, marked_as}

-- the names of an entry; none where there is no entry
abbrev pub names_in : {A : Type 0} → Option (Vec Name A) → List Name
names_in None = []
names_in (Some names) = names.items

-- the value at the name is this one; all other names have what they had
abbrev pub IsPut : {X : Type 0} → BTreeMap Name X → BTreeMap Name X → Name → Option X → Type 0
IsPut old new name value = (q : Name) → get name_cmp new q ≡ cond (is_eq (name_cmp name q)) value (get name_cmp old q)

-- each name has what it had
abbrev pub IsSame : {X : Type 0} → BTreeMap Name X → BTreeMap Name X → Type 0
IsSame old new = (q : Name) → get name_cmp new q ≡ get name_cmp old q

-- the name was added under the parent; the others have the names that they had
abbrev pub HasChild : {A : Type 0} → BTreeMap Name (Vec Name A) → BTreeMap Name (Vec Name A) → Name → Name → Type 0
HasChild old new parent name =
    (q : Name) → names_in (get name_cmp new q) ≡ cond (is_eq (name_cmp parent q)) (names_in (get name_cmp old q) ++ name ∷ []) (names_in (get name_cmp old q))

-- each has the names that it had
abbrev pub HasSameNames : {A : Type 0} → BTreeMap Name (Vec Name A) → BTreeMap Name (Vec Name A) → Type 0
HasSameNames old new = (q : Name) → names_in (get name_cmp new q) ≡ names_in (get name_cmp old q)

-- a node with another standing
abbrev pub with_standing : Standing → Node → Node
with_standing standing node = record { parent = node.parent; standing = standing }

-- the name of the linking is marked where it is known; the others are as they were
abbrev pub AreMarked : (Name → Option Node) → (Name → Option Node) → Linking → Mark → Type 0
AreMarked old new linking mark =
    (q : Name) → new q ≡ cond (is_eq (name_cmp linking.name q)) (option_map (with_standing (marked_as mark linking.height)) (old q)) (old q)

-- the nodes after the names of the linkings were marked, one after another
abbrev pub marked : Mark → (Name → Option Node) → List Linking → Name → Option Node
marked mark old [] q = old q
marked mark old (linking ∷ linkings) q =
    marked mark (λ name. cond (is_eq (name_cmp linking.name name)) (option_map (with_standing (marked_as mark linking.height)) (old name)) (old name)) linkings q

-- whether one of the linkings has the name
abbrev pub is_among : List Linking → Name → Bool
is_among [] q = false
is_among (linking ∷ linkings) q = is_eq (name_cmp linking.name q) || is_among linkings q

-- the height in a node; 0 where it has none
abbrev pub height_of_standing : Standing → ℕ
height_of_standing Unknown = 0
height_of_standing Waiting = 0
height_of_standing (Linked height) = height
height_of_standing (Gone height) = height

abbrev pub height_in : Option Node → ℕ
height_in None = 0
height_in (Some node) = height_of_standing node.standing

-- the parent that is told of a node
abbrev pub parent_told : Standing → Name → Option Name
parent_told Unknown parent = None
parent_told Waiting parent = Some parent
parent_told (Linked height) parent = if nat_lt 0 height then Some parent else None
parent_told (Gone height) parent = None
