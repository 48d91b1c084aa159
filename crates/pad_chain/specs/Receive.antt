-- What becomes of a chain as a message comes.
use Rattle.std.specs.Prelude.{◌≡◌, ◌⊎◌, ℕ, ◌+◌, ◌≤◌, List, ◌∷◌, ◌++◌, length, None}
use Rattle.pad_text.specs.declared.name.Name.{Name}
use Rattle.pad_message.specs.declared.message.Message.{Message}
use Rattle.pad_graph.specs.Chain.{Link}
use Rattle.pad_graph.specs.State as graph
use Rattle.pad_graph.specs.Graph.{Stands}
use Rattle.pad_model.specs.declared.base.Base.{Base}
use Rattle.pad_model.specs.Path.{IsLinkedPath}
use Rattle.pad_model.specs.Choice.{Choice, RunsThrough}
use Rattle.pad_chain.specs.declared.moved.Moved.{Moved}
use Rattle.pad_chain.specs.Moved.{IsMoved}
use Rattle.pad_chain.specs.State.{View, held_of}
use Rattle.pad_chain.specs.Tie.{IsChosenNext, StandsFor}

-- The chain had chosen `choice` of the messages received. It stands for these and then the message, with what is chosen next,
-- and the moves are how the chosen path changed.
pub record IsReceived (old new : View) (base : Base) (received : List Message) (message : Message) (choice : Choice) (moved : Moved) : Type 0 where
  pub next : Choice
  pub chosen : IsChosenNext old.whole base received message choice next
  pub stands : StandsFor new base (message ∷ received) next
  pub path : IsMoved base choice.chosen next.chosen moved

-- what was told as found stays told; what was found since comes first
abbrev pub KeepsFound : View → View → Type 0
KeepsFound old new = (more : List Name) × (new.found ≡ more ++ old.found)

-- the branch with its text, the root and what overtook, what was found, and whether it truncates are as they were
pub record KeepsBranch (old new : View) : Type 0 where
  pub pruning : new.pruning ≡ old.pruning
  pub branch : new.branch.branch ≡ old.branch.branch
  pub found : new.found ≡ old.found
  pub whole : new.whole ≡ old.whole

-- at each name the same is held as before, with the same mark, but for one name, at which nothing is held if that is not so
abbrev pub KeepsHeld : View → View → Name → Type 0
KeepsHeld old new name = (other : Name) → (held_of new other ≡ held_of old other) ⊎ ((other ≡ name) × (held_of new other ≡ None))

-- the graph stands for what it stood for: the same links, and the same root
abbrev pub KeepsStands : View → View → Type 0
KeepsStands old new = (base : Name) (links : List Link) (root : List Name) → Stands (graph.state_of old.graph) base links root → Stands (graph.state_of new.graph) base links root

-- the chain is as it was, but for how much memory it has
pub record IsUntouched (old new : View) : Type 0 where
  pub graph_is : graph.state_of new.graph ≡ graph.state_of old.graph
  pub messages : new.messages ≡ old.messages
  pub pruning : new.pruning ≡ old.pruning
  pub branch : new.branch.branch ≡ old.branch.branch
  pub found : new.found ≡ old.found
  pub whole : new.whole ≡ old.whole

-- no linked path through the root goes on from it by more messages than this
abbrev pub IsWithin : Base → List Message → List Message → ℕ → Type 0
IsWithin base received root depth = (path : List Message) → IsLinkedPath base received path → RunsThrough root path → length path ≤ length root + depth
