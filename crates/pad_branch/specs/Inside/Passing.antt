-- Marks that are passed on, level by level.
use Rattle.std.specs.Prelude.{◌≡◌, ◌⊎◌, List, ◌∷◌, Contains, Bool, true, Option}
use Rattle.std.specs.BTreeSet.{BTreeSet}
use Rattle.pad_text.specs.declared.name.Name.{Name}
use Rattle.pad_message.specs.declared.message.Message.{Message}
use Rattle.pad_message.specs.Message.{name_of}
use Rattle.pad_model.specs.declared.base.Base.{Base}
use Rattle.pad_model.specs.Path.{IsLinkedPath}
use Rattle.pad_model.specs.Choice.{RunsThrough}
use Rattle.pad_branch.specs.declared.held.Held.{Held}
use Rattle.pad_branch.specs.Pathless.{HangsOn, pathless_in}

-- more is marked: what hangs above the root on the message with this name
pub record PassesOn (base : Base) (received root : List Message) (name : Name) (before after : Name → Bool) : Type 0 where
  pub still : (other : Name) → before other ≡ true → after other ≡ true
  pub above : (other : Name) → HangsOn base received name other → after other ≡ true
  pub only : (other : Name) → after other ≡ true → (before other ≡ true) ⊎ HangsOn base received name other

-- a linked path through the root `below`, above it, ends in the message with this name
pub record IsLinkedThrough (base : Base) (received below : List Message) (name : Name) : Type 0 where
  pub message : Message
  pub path : List Message
  pub linked : IsLinkedPath base received (message ∷ path)
  pub through : RunsThrough below path
  pub named : name_of message ≡ name

-- these names were marked; those that had no mark stand in the next level
pub record MarksNames (table : Name → Option Held) (names : List Name) (old : BTreeSet Name) (level : List Name) (new : BTreeSet Name) (next : List Name) : Type 0 where
  pub still : (n : Name) → pathless_in table old n ≡ true → pathless_in table new n ≡ true
  pub every : (n : Name) → Contains names n → pathless_in table new n ≡ true
  pub only : (n : Name) → pathless_in table new n ≡ true → (pathless_in table old n ≡ true) ⊎ (Contains names n × Contains next n)
  pub kept : (n : Name) → Contains level n → Contains next n
  pub added : (n : Name) → Contains next n → Contains level n ⊎ (Contains names n × (pathless_in table new n ≡ true))

-- a child of one of these
pub record IsChildOf (children : Name → List Name) (over : List Name) (n : Name) : Type 0 where
  pub parent : Name
  pub among : Contains over parent
  pub child : Contains (children parent) n

-- the children of these were marked; those that had no mark are the next level
pub record MarksChildren (table : Name → Option Held) (children : Name → List Name) (over : List Name) (old new : BTreeSet Name) (next : List Name) : Type 0 where
  pub still : (n : Name) → pathless_in table old n ≡ true → pathless_in table new n ≡ true
  pub every : (n : Name) → IsChildOf children over n → pathless_in table new n ≡ true
  pub only : (n : Name) → pathless_in table new n ≡ true → (pathless_in table old n ≡ true) ⊎ (IsChildOf children over n × Contains next n)
  pub added : (n : Name) → Contains next n → IsChildOf children over n × (pathless_in table new n ≡ true)
