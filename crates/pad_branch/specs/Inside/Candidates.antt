-- Linked paths that better the best branch.
use Rattle.std.specs.Prelude.{◌≡◌, ◌≤◌, ◌<◌, ◌⊎◌, ℕ, List, ◌∷◌, ◌++◌, length, map, All, Contains, Option}
use Rattle.std.specs.declared.cmp.Ordering.{Ordering}
use Rattle.std.specs.Ordering.{nat_cmp, ordering_then}
use Rattle.std.specs.Cmp.Lexicographic.{slice_cmp}
use Rattle.pad_text.specs.declared.name.Name.{Name}
use Rattle.pad_text.specs.Name.{NameLess}
use Rattle.pad_graph.specs.declared.linking.Linking.{Linking}
use Rattle.pad_message.specs.declared.message.Message.{Message}
use Rattle.pad_message.specs.Message.{name_of}
use Rattle.pad_model.specs.declared.base.Base.{Base}
use Rattle.pad_model.specs.Path.{last_name, IsLinkedPath, EachSound, NamesDiffer}
use Rattle.pad_model.specs.Best.{IsBetter}
use Rattle.pad_model.specs.Choice.{IsBestThrough, RunsThrough}
use Rattle.pad_branch.specs.declared.candidate.Candidate.{Candidate}
use Rattle.pad_branch.specs.declared.held.Held.{Held}
use Rattle.pad_branch.specs.declared.undo.Undo.{Undo}
use Rattle.pad_branch.specs.Undo.{undone_name}
use Rattle.pad_branch.specs.Held.{HoldsKept, marks}
use Rattle.pad_branch.specs.Pathless.{KnowsPathless, AreFound}
use Rattle.pad_branch.specs.Branch.{State, IsTrunk}
use Rattle.pad_branch.specs.Choice.{AreLinkedOn}

-- the order of candidates: the better one first
abbrev pub candidate_cmp : Candidate → Candidate → Ordering
candidate_cmp one other = ordering_then (nat_cmp other.height.0 one.height.0) (slice_cmp nat_cmp one.name.0 other.name.0)

-- the candidate of a linking
abbrev pub candidate_of : Linking → Candidate
candidate_of linking = record { height = record { 0 = linking.height }; name = linking.name }

-- the linking betters a path of this last name and height
abbrev pub Betters : Linking → Name → ℕ → Type 0
Betters linking name height = (height < linking.height) ⊎ ((linking.height ≡ height) × NameLess linking.name name)

-- and is not longer than `longest`
abbrev pub BettersWithin : Linking → Name → ℕ → ℕ → Type 0
BettersWithin linking name height longest = (linking.height ≤ longest) × Betters linking name height

-- it is that of a linking that does
pub record IsOneOf (linkings : List Linking) (name : Name) (height longest : ℕ) (candidate : Candidate) : Type 0 where
  pub linking : Linking
  pub among : Contains linkings linking
  pub is : candidate ≡ candidate_of linking
  pub betters : BettersWithin linking name height longest

-- a linked path through the root `below` that betters the best branch, by length and last name
pub record IsCandidate (base : Base) (received below chosen : List Message) (candidate : Candidate) : Type 0 where
  pub last : Message
  pub rest : List Message
  pub linked : IsLinkedPath base received (last ∷ rest ++ below)
  pub high : candidate.height.0 ≡ length (last ∷ rest ++ below)
  pub named : candidate.name ≡ last_name base (last ∷ rest ++ below)
  pub better : IsBetter base (last ∷ rest ++ below) (chosen ++ below)

-- what the choice stands on: `message` came after `received`, where `chosen` was the best through the root `below`
pub record IsOffered (base : Base) (received : List Message) (message : Message) (below chosen : List Message) (candidates : List Candidate) : Type 0 where
  pub differ : NamesDiffer (message ∷ received)
  pub best : IsBestThrough base received below (chosen ++ below)
  pub each : All (IsCandidate base (message ∷ received) below chosen) candidates
  pub every : (above under : List Message) → IsLinkedPath base (message ∷ received) (above ++ message ∷ under) → RunsThrough below (above ++ message ∷ under) → IsBetter base (above ++ message ∷ under) (chosen ++ below)
      → (candidate : Candidate) × Contains candidates candidate × (candidate.name ≡ last_name base (above ++ message ∷ under))

-- the same with the tables
pub record AreReady (base : Base) (received : List Message) (message : Message) (below chosen : List Message) (branch : State) (table : Name → Option Held) (children : Name → List Name) (longest : ℕ) (found : List Name) (candidates : List Candidate) : Type 0 where
  pub offered : IsOffered base received message below chosen candidates
  pub trunk : IsTrunk base (message ∷ received) below chosen branch
  pub holds : HoldsKept base (message ∷ received) below table
  pub children_are : AreLinkedOn base (message ∷ received) below children
  pub short : (path : List Message) → IsLinkedPath base (message ∷ received) path → length path ≤ longest
  pub knows : KnowsPathless base (message ∷ received) below (marks table)
  pub are : AreFound base (message ∷ received) below (marks table) found

-- no path ends in it
abbrev pub NoPathIn : Base → List Message → Candidate → Type 0
NoPathIn base received candidate = (path : List Message) → IsLinkedPath base received path → last_name base path ≡ candidate.name → ¬ (EachSound base path)

-- one undo for each message, by name
abbrev pub AreNamed : List Message → List Undo → Type 0
AreNamed messages undos = map name_of messages ≡ map undone_name undos
