-- What is known of linked paths that were not all tested. A name is pathless if no path ends in the message with it.
use Rattle.std.specs.Prelude.{◌≡◌, ◌||◌, List, ◌∷◌, ◌++◌, Contains, Bool, true, false, Option}
use Rattle.std.specs.BTreeSet.{BTreeSet, contains}
use Rattle.pad_text.specs.declared.name.Name.{Name}
use Rattle.pad_message.specs.declared.message.Message.{Message}
use Rattle.pad_message.specs.Message.{name_of}
use Rattle.pad_model.specs.declared.base.Base.{Base}
use Rattle.pad_model.specs.Path.{last_name, IsLinkedPath, EachSound, IsSoundOn}
use Rattle.pad_model.specs.Choice.{RunsThrough}
use Rattle.pad_list.specs.Number.{NoRepeat}
use Rattle.pad_graph.specs.State.{name_cmp}
use Rattle.pad_branch.specs.declared.held.Held.{Held}
use Rattle.pad_branch.specs.Held.{marks}

-- the linked path to the message named `upper` goes through the message named `lower`
pub record HangsOn (base : Base) (received : List Message) (lower upper : Name) : Type 0 where
  pub above : List Message
  pub message : Message
  pub below : List Message
  pub linked : IsLinkedPath base received (above ++ message ∷ below)
  pub named : name_of message ≡ lower
  pub last : last_name base (above ++ message ∷ below) ≡ upper

-- No path ends in a message that is marked, and the marks pass on to what hangs on it above the root.
pub record KnowsPathless (base : Base) (received root : List Message) (pathless : Name → Bool) : Type 0 where
  pub at_root : pathless (last_name base root) ≡ false
  pub really : (message : Message) (path : List Message) → IsLinkedPath base received (message ∷ path) → pathless (name_of message) ≡ true → ¬ (EachSound base (message ∷ path))
  pub passed : (message : Message) (path : List Message) → IsLinkedPath base received (message ∷ path) → RunsThrough root path → pathless (last_name base path) ≡ true → pathless (name_of message) ≡ true

-- the message is the first on its linked path that is not sound
pub record IsFirstUnsound (base : Base) (received : List Message) (name : Name) : Type 0 where
  pub message : Message
  pub below : List Message
  pub named : name_of message ≡ name
  pub linked : IsLinkedPath base received (message ∷ below)
  pub sound : EachSound base below
  pub unsound : ¬ (IsSoundOn base below message)

-- the names found, each once; those above the root are marked
pub record AreFound (base : Base) (received root : List Message) (pathless : Name → Bool) (found : List Name) : Type 0 where
  pub once : NoRepeat found
  pub each : (name : Name) → Contains found name → IsFirstUnsound base received name
  pub marked : (name : Name) (message : Message) (path : List Message) → Contains found name → name_of message ≡ name → IsLinkedPath base received (message ∷ path) → RunsThrough root path → pathless name ≡ true

-- marked in the table, or among these
abbrev pub pathless_in : (Name → Option Held) → BTreeSet Name → Name → Bool
pathless_in table more name = marks table name || contains name_cmp more name
