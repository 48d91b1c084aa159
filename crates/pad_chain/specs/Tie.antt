-- What a chain stands for: a base, the messages received, the newest first, and what is chosen of them.
use Rattle.std.specs.Prelude.{◌≡◌, ◌⊎◌, List, [], ◌∷◌, ◌++◌, Bool, true, false, Some}
use Rattle.pad_text.specs.declared.name.Name.{Name}
use Rattle.pad_message.specs.declared.message.Message.{Message}
use Rattle.pad_message.specs.Message.{name_of}
use Rattle.pad_graph.specs.Chain.{Link}
use Rattle.pad_graph.specs.State as graph
use Rattle.pad_graph.specs.Graph.{Stands}
use Rattle.pad_model.specs.declared.base.Base.{Base}
use Rattle.pad_model.specs.Path.{IsLinkedPath}
use Rattle.pad_model.specs.Best.{IsBest}
use Rattle.pad_model.specs.Choice.{Choice, IsNextChoice, IsChoice, RunsThrough}
use Rattle.pad_model.specs.Count.{IsWaiting}
use Rattle.pad_checkpoint.specs.Place.{place_of}
use Rattle.pad_checkpoint.specs.Links.{names_of, AreLinks}
use Rattle.pad_branch.specs.declared.held.Held.{Held}
use Rattle.pad_branch.specs.Held.{HoldsKept, marks}
use Rattle.pad_branch.specs.Pathless.{KnowsPathless, AreFound}
use Rattle.pad_branch.specs.Branch.{IsTrunk}
use Rattle.pad_chain.specs.State.{View, held_of}

-- what is chosen if nothing is ever dropped: the best chain, with the base as root
pub record IsWholeChoice (base : Base) (received : List Message) (choice : Choice) : Type 0 where
  pub root : choice.root ≡ []
  pub best : IsBest base received choice.chosen
  pub none : choice.overtaken ≡ 0

-- what a chain chooses of the messages received: a chain of `whole`, or any other
abbrev pub IsChosen : Bool → Base → List Message → Choice → Type 0
IsChosen true base received choice = IsWholeChoice base received choice
IsChosen false base received choice = IsChoice base received choice

-- what it chooses once the message came after those received, where it had chosen `choice`
abbrev pub IsChosenNext : Bool → Base → List Message → Message → Choice → Choice → Type 0
IsChosenNext true base received message choice next = IsWholeChoice base (message ∷ received) next
IsChosenNext false base received message choice next = IsNextChoice base received message choice next

-- a linked path through the root ends in the message: it is kept
abbrev pub IsKeptMessage : Base → List Message → List Message → Message → Type 0
IsKeptMessage base received root message = (path : List Message) × IsLinkedPath base received (message ∷ path) × RunsThrough root (message ∷ path)

-- The graph stands for the links of the messages and the root; the messages that are kept above the root or wait are held, and
-- no others but the root's; the branch is the chosen path above the root, with its text; marks and names found are those of
-- messages in which no path ends.
pub record StandsFor (chain : View) (base : Base) (received : List Message) (choice : Choice) : Type 0 where
  pub chosen : IsChosen chain.whole base received choice
  pub links : List Link
  pub are_links : AreLinks base received links
  pub stands : Stands (graph.state_of chain.graph) base.name links (names_of choice.root)
  pub at_root : chain.pruning.root ≡ place_of base choice.root
  pub overtook : chain.pruning.overtaken ≡ choice.overtaken
  pub above : List Message
  pub through : choice.chosen ≡ above ++ choice.root
  pub trunk : IsTrunk base received choice.root above chain.branch.branch
  pub holds : HoldsKept base received choice.root (held_of chain)
  pub waits : (message : Message) → IsWaiting base received message → (held : Held) × (held_of chain (name_of message) ≡ Some held) × (held.message ≡ message) × (held.pathless ≡ false)
  pub only : (name : Name) (held : Held) → held_of chain name ≡ Some held → (name_of held.message ≡ name) × (IsKeptMessage base received choice.root held.message ⊎ IsWaiting base received held.message)
  pub knows : KnowsPathless base received choice.root (marks (held_of chain))
  pub are_found : AreFound base received choice.root (marks (held_of chain)) chain.found
