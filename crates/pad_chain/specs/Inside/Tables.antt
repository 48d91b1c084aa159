-- What a step does to the table of messages.
use Rattle.std.specs.Prelude.{◌≡◌, ◌||◌, ◌&&◌, List, [], ◌∷◌, Bool, true, false, Option, None, cond}
use Rattle.std.specs.Ordering.{is_eq}
use Rattle.std.specs.Option.{option_map}
use Rattle.pad_text.specs.declared.name.Name.{Name}
use Rattle.pad_graph.specs.declared.linking.Linking.{Linking}
use Rattle.std.specs.BTreeSet.{BTreeSet, contains}
use Rattle.pad_graph.specs.declared.standing.Standing.{Standing}
use Rattle.pad_graph.specs.declared.standing.Standing.TheVariants.{Unknown, Waiting, Linked, Gone}
use Rattle.pad_graph.specs.State.{State, standing, name_cmp}
use Rattle.pad_branch.specs.declared.held.Held.{Held}

-- what is at the name is this; all other names have what they had
abbrev pub IsPut : (Name → Option Held) → (Name → Option Held) → Name → Option Held → Type 0
IsPut old new name value = (q : Name) → new q ≡ cond (is_eq (name_cmp name q)) value (old q)

-- each name has what it had
abbrev pub IsSame : (Name → Option Held) → (Name → Option Held) → Type 0
IsSame old new = (q : Name) → new q ≡ old q

-- whether one of the linkings has the name
abbrev pub is_among : List Linking → Name → Bool
is_among [] q = false
is_among (linking ∷ linkings) q = is_eq (name_cmp linking.name q) || is_among linkings q

-- what is held, with a mark
abbrev pub with_mark : Held → Held
with_mark held = record { message = held.message; pathless = true }

-- what is held at the names of the linkings was let go
abbrev pub AreLetGo : (Name → Option Held) → (Name → Option Held) → List Linking → Type 0
AreLetGo old new linkings = (q : Name) → new q ≡ cond (is_among linkings q) None (old q)

-- what is held at the name was marked
abbrev pub IsMarked : (Name → Option Held) → (Name → Option Held) → Name → Type 0
IsMarked old new name = (q : Name) → new q ≡ cond (is_eq (name_cmp name q)) (option_map with_mark (old q)) (old q)

-- what is held at the names of the linkings was marked
abbrev pub AreMarked : (Name → Option Held) → (Name → Option Held) → List Linking → Type 0
AreMarked old new linkings = (q : Name) → new q ≡ cond (is_among linkings q) (option_map with_mark (old q)) (old q)

-- whether a name that stands so is linked through the root
abbrev pub is_linked : Standing → Bool
is_linked Unknown = false
is_linked Waiting = false
is_linked (Linked height) = true
is_linked (Gone height) = false

-- what is held at the name was marked, if the name is linked through the root
abbrev pub IsNoted : (Name → Option Held) → (Name → Option Held) → Name → State → Type 0
IsNoted old new name state = (q : Name) → new q ≡ cond (is_eq (name_cmp name q) && is_linked (standing state name)) (option_map with_mark (old q)) (old q)

-- what is held at the names was marked, where those are linked through the root
abbrev pub AreNoted : (Name → Option Held) → (Name → Option Held) → BTreeSet Name → State → Type 0
AreNoted old new names state = (q : Name) → new q ≡ cond (contains name_cmp names q && is_linked (standing state q)) (option_map with_mark (old q)) (old q)
