-- Names and their parents. A chain is a list of names, the newest first: each was added with the name below it as its
-- parent, and the lowest with the base's name. `[]` is the base alone.
use Rattle.std.specs.Prelude.{◌≡◌, ◌≢◌, ⊤, ℕ, List, [], ◌∷◌, ◌++◌, length, Contains}
use Rattle.pad_text.specs.declared.name.Name.{Name}

-- a name with the name of its parent
pub record Link : Type 0 where
  pub name : Name
  pub parent : Name

-- the last name of a chain; of the empty chain the base's
abbrev pub top : Name → List Name → Name
top base [] = base
top base (name ∷ names) = name

-- each name was added on the name below it, and none is the base's
abbrev pub IsChain : Name → List Link → List Name → Type 0
IsChain base links [] = ⊤
IsChain base links (name ∷ names) = Contains links (record { name = name; parent = top base names }) × (name ≢ base) × IsChain base links names

-- the chain goes on from the chain `root`
abbrev pub GoesThrough : List Name → List Name → Type 0
GoesThrough root names = (above : List Name) × (names ≡ above ++ root)

-- a chain ends in the name: it is linked, at the height of that chain's length
abbrev pub IsLinkedName : Name → List Link → Name → ℕ → Type 0
IsLinkedName base links name height = (names : List Name) × IsChain base links names × (top base names ≡ name) × (height ≡ length names)

-- it is linked, by a chain through the root
abbrev pub IsKeptName : Name → List Link → List Name → Name → ℕ → Type 0
IsKeptName base links root name height =
    (names : List Name) × IsChain base links names × (top base names ≡ name) × (height ≡ length names) × GoesThrough root names

-- it is linked, by a chain that does not go through the root. So is the base, where it is not the root.
abbrev pub IsGoneName : Name → List Link → List Name → Name → ℕ → Type 0
IsGoneName base links root name height =
    (names : List Name) × IsChain base links names × (top base names ≡ name) × (height ≡ length names) × ¬ (GoesThrough root names)

-- the name was added
abbrev pub IsAddedName : List Link → Name → Type 0
IsAddedName links name = (link : Link) × Contains links link × (link.name ≡ name)

-- the name was added, and no chain ends in it
abbrev pub IsWaitingName : Name → List Link → Name → Type 0
IsWaitingName base links name = IsAddedName links name × ((height : ℕ) → ¬ (IsLinkedName base links name height))

-- as the link comes, the name becomes linked at this height
pub record BecomesLinked (base : Name) (links : List Link) (link : Link) (name : Name) (height : ℕ) : Type 0 where
  pub now : IsLinkedName base (link ∷ links) name height
  pub before : (any : ℕ) → ¬ (IsLinkedName base links name any)
