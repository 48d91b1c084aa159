-- Laws of what a chain knows while it keeps the text of its best branch alone.
use Rattle.std.specs.Prelude.{◌≡◌, ◌≤◌, ◌⊎◌, List, ◌∷◌, ◌++◌, length, reverse, All, Bool, true, false}
use Rattle.pad_text.specs.declared.name.Name.{Name}
use Rattle.pad_message.specs.declared.message.Message.{Message}
use Rattle.pad_message.specs.Kind.{is_checkpoint}
use Rattle.pad_model.specs.declared.base.Base.{Base}
use Rattle.pad_model.specs.Path.{last_name, text, IsLinkedPath, EachSound, NamesDiffer}
use Rattle.pad_model.specs.Choice.{RunsThrough, cut, higher}
use Rattle.pad_branch.specs.Undo.{undone}
use Rattle.pad_branch.specs.Pathless.{KnowsPathless, AreFound}
use Rattle.pad_branch.specs.Branch.{State, IsTrunk}

-- none of them is a checkpoint
abbrev pub NoCheckpoint : List Message → Type 0
NoCheckpoint messages = All (λ (message : Message). is_checkpoint message.kind ≡ false) messages

-- where no message that came onto the best branch is a checkpoint, the root stays
abbrev pub RootStays : Type 0
RootStays = (root left joined common : List Message) → NoCheckpoint joined → length (cut (left ++ common)) ≤ length root → higher root (cut (joined ++ common)) ≡ root

-- A message that is linked on one without a mark leaves what is known, where what it links has no mark. So does a message
-- that links nothing.
abbrev pub StaysKnown : Type 0
StaysKnown = (base : Base) (received root : List Message) (message : Message) (pathless : Name → Bool) → KnowsPathless base received root pathless → pathless message.parent ≡ false
    → ((above under : List Message) → IsLinkedPath base (message ∷ received) (above ++ message ∷ under) → pathless (last_name base (above ++ message ∷ under)) ≡ false) → KnowsPathless base (message ∷ received) root pathless

-- a root that rises leaves what is known
abbrev pub KnownAbove : Type 0
KnownAbove = (base : Base) (received root higher_root : List Message) (pathless : Name → Bool) → KnowsPathless base received root pathless → IsLinkedPath base received higher_root → EachSound base higher_root → RunsThrough root higher_root → KnowsPathless base received higher_root pathless

-- what was found stays found as a message comes
abbrev pub FoundStays : Type 0
FoundStays = (base : Base) (received root : List Message) (message : Message) (pathless : Name → Bool) (found : List Name) → NamesDiffer (message ∷ received) → AreFound base received root pathless found → AreFound base (message ∷ received) root pathless found

-- and as the root rises
abbrev pub FoundAbove : Type 0
FoundAbove = (base : Base) (received root higher_root : List Message) (pathless : Name → Bool) (found : List Name) → AreFound base received root pathless found → RunsThrough root higher_root → AreFound base received higher_root pathless found

-- a message on one that is marked is marked, with all that it links
abbrev pub MarksPass : Type 0
MarksPass = (base : Base) (received root : List Message) (message : Message) (pathless after : Name → Bool) → NamesDiffer (message ∷ received) → IsLinkedPath base received root → KnowsPathless base received root pathless → pathless message.parent ≡ true
    → ((under : List Message) → ¬ (IsLinkedPath base received (message ∷ under)))
    → ((under : List Message) → IsLinkedPath base (message ∷ received) (message ∷ under) → RunsThrough root under)
    → ((name : Name) → pathless name ≡ true → after name ≡ true)
    → ((above under : List Message) → IsLinkedPath base (message ∷ received) (above ++ message ∷ under) → after (last_name base (above ++ message ∷ under)) ≡ true)
    → ((name : Name) → after name ≡ true → (pathless name ≡ true) ⊎ ((above : List Message) × (under : List Message) × IsLinkedPath base (message ∷ received) (above ++ message ∷ under) × (last_name base (above ++ message ∷ under) ≡ name)))
    → KnowsPathless base (message ∷ received) root after

-- the branch stays the same path as a message comes
abbrev pub TrunkStays : Type 0
TrunkStays = (base : Base) (received below chosen : List Message) (message : Message) (branch : State) → NamesDiffer (message ∷ received) → IsTrunk base received below chosen branch → IsTrunk base (message ∷ received) below chosen branch

-- the text of the root is that of the end with all messages taken back
abbrev pub RootText : Type 0
RootText = (base : Base) (received below chosen : List Message) (branch : State) → IsTrunk base received below chosen branch → undone (reverse branch.undos) branch.units ≡ text base below
