-- What the steps stand on that a chain makes as a message comes.
use Rattle.std.specs.Prelude.{◌≡◌, ◌≢◌, ℕ, ◌+◌, ◌*◌, ◌≤◌, List, [], ◌∷◌, ◌++◌, length, All, Bool, true, false, Some}
use Rattle.std.specs.BTreeSet.{BTreeSet}
use Rattle.pad_text.specs.declared.name.Name.{Name}
use Rattle.pad_message.specs.declared.message.Message.{Message}
use Rattle.pad_message.specs.Message.{name_of}
use Rattle.pad_graph.specs.declared.linking.Linking.{Linking}
use Rattle.pad_graph.specs.declared.added.Added.{Added}
use Rattle.pad_graph.specs.declared.added.Added.TheVariants.{Linked}
use Rattle.pad_graph.specs.Added.{IsAdded, links_after}
use Rattle.pad_graph.specs.Chain.{Link}
use Rattle.pad_graph.specs.State as graph
use Rattle.pad_graph.specs.Graph.{Stands, AreDropped}
use Rattle.pad_model.specs.declared.base.Base.{Base}
use Rattle.pad_model.specs.Path.{NamesDiffer}
use Rattle.pad_model.specs.Choice.{cut, Choice, IsBestThrough}
use Rattle.pad_checkpoint.specs.declared.place.Place.{Place}
use Rattle.pad_checkpoint.specs.Place.{place_of}
use Rattle.pad_checkpoint.specs.Links.{link_of, names_of}
use Rattle.pad_checkpoint.specs.Settled.{KeepsLinks}
use Rattle.pad_branch.specs.declared.undo.Undo.{Undo}
use Rattle.pad_branch.specs.Held.{marks}
use Rattle.pad_branch.specs.Pathless.{KnowsPathless, AreFound, pathless_in}
use Rattle.pad_branch.specs.Choice.{IsReady}
use Rattle.pad_branch.specs.Branch.{IsWon}
use Rattle.pad_chain.specs.declared.moved.Moved.{Moved}
use Rattle.pad_chain.specs.State.{View, held_of}
use Rattle.pad_chain.specs.Leads.{Leads}
use Rattle.pad_chain.specs.Receive.{IsReceived}
use Rattle.pad_chain.specs.Tie.{StandsFor}
use Rattle.pad_chain.specs.Inside.Tables.{IsPut}

-- what comes onto the root as it rises to the cut of a path above it: nothing in a chain that never truncates
abbrev pub rising : Bool → List Message → List Message
rising true path = []
rising false path = cut path

-- a chain that stood for the messages received, and to whose graph a message was added since
pub record IsAdding (before now : View) (base : Base) (received : List Message) (message : Message) (choice : Choice) (added : Added) : Type 0 where
  pub stood : StandsFor before base received choice
  pub told : IsAdded base.name stood.links (names_of choice.root) (link_of message) added
  pub stands : Stands (graph.state_of now.graph) base.name (links_after (link_of message) stood.links added) (names_of choice.root)

-- and which holds the message; these became linked with it
pub record IsJoining (before now : View) (base : Base) (received : List Message) (message : Message) (choice : Choice) (linkings : List Linking) : Type 0 where
  pub adding : IsAdding before now base received message choice (Linked linkings)
  pub differ : NamesDiffer (message ∷ received)
  pub put : IsPut (held_of before) (held_of now) (name_of message) (Some (record { message = message; pathless = false }))
  pub pruning : now.pruning ≡ before.pruning
  pub branch : now.branch ≡ before.branch
  pub found : now.found ≡ before.found
  pub whole : now.whole ≡ before.whole

-- the root rose by these messages, and the graph with it; it lends what was dropped, if the root moved
pub record IsRaised (base : Base) (links : List Link) (root risen : List Message) (place : Place) (state : graph.State) : Type 0 where
  pub at_root : place ≡ place_of base (risen ++ root)
  pub stands : Stands state base.name links (names_of (risen ++ root))
  pub lent : risen ≢ [] → AreDropped base.name links (names_of root) (names_of (risen ++ root)) state.dropped

-- what was found out as paths were tested: these names are of messages in which no path ends, and these were found now
pub record IsFoundOut (before now : View) (base : Base) (received : List Message) (message : Message) (choice : Choice) (linkings : List Linking) (names : BTreeSet Name) (found : List Name) : Type 0 where
  pub joining : IsJoining before now base received message choice linkings
  pub ready : IsReady base received message choice.root joining.adding.stood.above now.branch.branch (held_of now) (graph.state_of now.graph) before.found linkings
  pub knows : KnowsPathless base (message ∷ received) choice.root (pathless_in (held_of now) names)
  pub are : AreFound base (message ∷ received) choice.root (pathless_in (held_of now) names) (found ++ before.found)

-- the graph stands for the links that it stood for, maybe with another root
abbrev pub KeepsNames : View → View → Type 0
KeepsNames old new = KeepsLinks (graph.state_of old.graph) (graph.state_of new.graph)

-- the graph stands for the links that it stood for, but for the last of them
abbrev pub UndoesName : View → View → Type 0
UndoesName old new = (base : Name) (link : Link) (links : List Link) (root : List Name) → Stands (graph.state_of old.graph) base (link ∷ links) root → Stands (graph.state_of new.graph) base links root

-- ---- what the steps lead to, from the chain as it is once the graph has added the message

-- the message is received, where the graph answered so
abbrev pub Receives : View → View → Message → Added → Moved → Type 0
Receives now new message added moved =
    (before : graph.Tables) (base : Base) (received : List Message) (choice : Choice) → NamesDiffer (message ∷ received) → IsAdding (record now { graph = before }) now base received message choice added → IsReceived (record now { graph = before }) new base received message choice moved

-- the chain stands for what it stood for
abbrev pub Refuses : View → View → Message → Added → Type 0
Refuses now new message added = (before : graph.Tables) (base : Base) (received : List Message) (choice : Choice) → IsAdding (record now { graph = before }) now base received message choice added → StandsFor new base received choice

-- the message is received, if its parent has no mark
abbrev pub TakesOn : View → View → List Linking → Moved → Type 0
TakesOn now new linkings moved =
    (before : View) (base : Base) (received : List Message) (message : Message) (choice : Choice) → IsJoining before now base received message choice linkings → marks (held_of before) message.parent ≡ false → IsReceived before new base received message choice moved

-- the message is received, if no path won
abbrev pub Stays : View → View → BTreeSet Name → List Name → Moved → Type 0
Stays now new names found moved =
    (before : View) (base : Base) (received : List Message) (message : Message) (choice : Choice) (linkings : List Linking) → (out : IsFoundOut before now base received message choice linkings names found)
    → IsBestThrough base (message ∷ received) choice.root (out.joining.adding.stood.above ++ choice.root) → IsReceived before new base received message choice moved

-- the message is received, if a path won that has the first `keep` messages of the branch, and then those that `come` takes back
abbrev pub Switches : View → View → BTreeSet Name → List Name → ℕ → List Undo → List ℕ → Moved → Type 0
Switches now new names found keep come units moved =
    (before : View) (base : Base) (received : List Message) (message : Message) (choice : Choice) (linkings : List Linking) (path : List Message) → (out : IsFoundOut before now base received message choice linkings names found)
    → IsBestThrough base (message ∷ received) choice.root (path ++ choice.root) → IsWon base (message ∷ received) choice.root out.joining.adding.stood.above path now.branch.branch (held_of now) keep come units → IsReceived before new base received message choice moved

-- ---- what is told of the moves

-- The moves of which this holds are those that are told, if they are to be told.
abbrev pub Meant : Bool → Moved → (Moved → Type 0) → Type 0
Meant tell told Holds = (moved : Moved) × (tell ≡ true → moved ≡ told) × Holds moved

-- ---- what a step does, whatever the chain stands for

-- nothing left the chosen path, and nothing came onto it
pub record MovesNothing (moved : Moved) : Type 0 where
  pub left : moved.reverted ≡ []
  pub came : moved.applied ≡ []

-- the moves lead from the text of the one to the text of the other
abbrev pub LeadsOn : View → View → Moved → Type 0
LeadsOn old new moved = Leads (moved.reverted ++ moved.applied) old.branch.branch.units new.branch.branch.units

-- where nothing was found, a step for each message that left and two for each that came on
abbrev pub IsFirst : View → View → Moved → ℕ → ℕ → Type 0
IsFirst old new moved before after = length new.found ≡ length old.found → after ≤ before + length moved.reverted + 2 * length moved.applied

-- three steps for each message of a depth that is at least that of the branch and of the linkings above the root, once more than
-- messages were found
abbrev pub Costs : View → View → List Linking → ℕ → ℕ → Type 0
Costs old new linkings before after =
    (depth rise : ℕ) → length old.branch.branch.undos ≤ depth → All (λ (linking : Linking). linking.height ≤ old.branch.branch.low + depth) linkings → length new.found ≡ length old.found + rise
    → after ≤ before + 3 * depth * (rise + 1)
