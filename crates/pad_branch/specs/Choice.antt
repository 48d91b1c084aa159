-- The choice among the linked paths that one more message made.
use Rattle.std.specs.Prelude.{◌≡◌, ◌≤◌, List, ◌∷◌, ◌++◌, length, map, All, Contains, Option}
use Rattle.pad_text.specs.declared.name.Name.{Name}
use Rattle.pad_message.specs.declared.message.Message.{Message}
use Rattle.pad_message.specs.Message.{name_of}
use Rattle.pad_model.specs.declared.base.Base.{Base}
use Rattle.pad_model.specs.Path.{last_name, IsLinkedPath}
use Rattle.pad_model.specs.Choice.{IsBestThrough, RunsThrough}
use Rattle.pad_graph.specs.declared.linking.Linking.{Linking}
use Rattle.pad_graph.specs.State as graph
use Rattle.pad_branch.specs.declared.held.Held.{Held}
use Rattle.pad_branch.specs.Held.{HoldsKept, marks}
use Rattle.pad_branch.specs.Pathless.{KnowsPathless, AreFound}
use Rattle.pad_branch.specs.Branch.{State, IsTrunk}

-- a linked path that goes on from the root `below` has this height and this last name
pub record IsEnd (base : Base) (received below : List Message) (linking : Linking) : Type 0 where
  pub last : Message
  pub rest : List Message
  pub linked : IsLinkedPath base received (last ∷ rest ++ below)
  pub high : linking.height ≡ length (last ∷ rest ++ below)
  pub named : linking.name ≡ last_name base (last ∷ rest ++ below)

-- the children of the root, and of each message above it: those that are linked on it
pub record AreLinkedOn (base : Base) (received below : List Message) (children : Name → List Name) : Type 0 where
  pub every : (message : Message) (path : List Message) → IsLinkedPath base received (message ∷ path) → RunsThrough below path → Contains (children (last_name base path)) (name_of message)
  pub only : (path : List Message) (name : Name) → IsLinkedPath base received path → RunsThrough below path → Contains (children (last_name base path)) name → (message : Message) × IsLinkedPath base received (message ∷ path) × (name_of message ≡ name)

-- What the choice stands on: `message` came after `received`, where `chosen` was the best through the root `below`, and these
-- became linked with it, each through the root. No linked path is longer than the number of names that the graph knows.
pub record IsReady (base : Base) (received : List Message) (message : Message) (below chosen : List Message) (branch : State) (table : Name → Option Held) (names : graph.State) (found : List Name) (linkings : List Linking) : Type 0 where
  pub best : IsBestThrough base received below (chosen ++ below)
  pub trunk : IsTrunk base (message ∷ received) below chosen branch
  pub holds : HoldsKept base (message ∷ received) below table
  pub children : AreLinkedOn base (message ∷ received) below names.children
  pub short : (path : List Message) → IsLinkedPath base (message ∷ received) path → length path ≤ names.known
  pub knows : KnowsPathless base (message ∷ received) below (marks table)
  pub are : AreFound base (message ∷ received) below (marks table) found
  pub each : All (IsEnd base (message ∷ received) below) linkings
  pub every : (above under : List Message) → IsLinkedPath base (message ∷ received) (above ++ message ∷ under) → RunsThrough below (above ++ message ∷ under)
      → Contains (map (λ (linking : Linking). linking.name) linkings) (last_name base (above ++ message ∷ under))
