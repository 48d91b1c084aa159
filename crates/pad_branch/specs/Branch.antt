-- The best branch: the chosen path from the root on, with its text.
use Rattle.std.specs.Prelude.{◌≡◌, ℕ, ◌+◌, ◌-◌, ◌^◌, ◌<◌, ◌≤◌, ◌⊎◌, List, [], ◌∷◌, ◌++◌, length, take, drop, map, reverse, Contains, Option, Some, vec_capacity}
use Rattle.std.specs.Global.{Vec}
use Rattle.pad_text.specs.declared.name.Name.{Name}
use Rattle.pad_text.specs.Hash.{document_hash}
use Rattle.pad_patch.specs.Piece.{text_after}
use Rattle.pad_patch.specs.Inverse.{inverse}
use Rattle.pad_patch.specs.Misfit.{CanApply}
use Rattle.pad_message.specs.declared.message.Message.{Message}
use Rattle.pad_message.specs.Message.{name_of}
use Rattle.pad_model.specs.declared.base.Base.{Base}
use Rattle.pad_model.specs.Sound.{IsSound, interval_of}
use Rattle.pad_model.specs.Path.{text, IsLinkedPath, EachSound, NamesDiffer}
use Rattle.pad_branch.specs.declared.held.Held.{Held}
use Rattle.pad_branch.specs.declared.tip.Tip.{Tip}
use Rattle.pad_branch.specs.declared.undo.Undo.{Undo}
use Rattle.pad_branch.specs.Tip.{IsTip, since_after, tip_after}
use Rattle.pad_branch.specs.Undo.{Rewinds, AreUndos, undone, undone_name}
use Rattle.pad_branch.specs.Held.{messages_at}
use Rattle.pad_branch.specs.Pathless.{IsFirstUnsound}

-- the root with its height, one undo for each message above it, the oldest first, and the text at the end
pub record State : Type 0 where
  pub root : Tip
  pub low : ℕ
  pub undos : List Undo
  pub units : List ℕ

-- what contracts see of a branch: its state, and how many undos it has memory for
pub record View : Type 0 where
  pub branch : State
  pub room : ℕ

-- the state with these fields
abbrev pub state : Tip → ℕ → List Undo → List ℕ → State
state root low undos units = record { root = root; low = low; undos = undos; units = units }

-- the tip at the end
abbrev pub tip_of : State → Tip
tip_of branch = tip_after branch.root (reverse branch.undos)

-- the height of the end
abbrev pub height_of : State → ℕ
height_of branch = branch.low + length branch.undos

-- the branch is the path `chosen` on top of the root `below`: the undos are those of its messages, and each is sound
pub record IsTrunk (base : Base) (received below chosen : List Message) (branch : State) : Type 0 where
  pub differ : NamesDiffer received
  pub linked : IsLinkedPath base received (chosen ++ below)
  pub undone : AreUndos base below chosen (reverse branch.undos)
  pub at_root : IsTip base below branch.root
  pub root_sound : EachSound base below
  pub height : branch.low ≡ length below
  pub text : branch.units ≡ text base (chosen ++ below)

-- a branch that was tested: its first `keep` messages are those of the best one, the others have these undos, the oldest
-- first, and its text is `units`
abbrev pub switched : State → ℕ → List Undo → List ℕ → State
switched branch keep new units = record { root = branch.root; low = branch.low; undos = take keep branch.undos ++ new; units = units }

-- the text where the first `keep` messages end
abbrev pub text_below : State → ℕ → List ℕ
text_below branch keep = undone (take (length branch.undos - keep) (reverse branch.undos)) branch.units

-- its text rewinds, so that it can be the best branch, and its height is no more than a number of 64 bits
pub record CanSwitch (branch : State) (keep : ℕ) (new : List Undo) (units : List ℕ) : Type 0 where
  pub keeps : keep ≤ length branch.undos
  pub rewinds : Rewinds branch.root branch.low (reverse (take keep branch.undos ++ new)) units
  pub few : branch.low + keep + length new + 1 < 2 ^ 64

-- the list of those that stay, or that of the new ones, has memory for both; the first is told by how many undos it has memory for
abbrev pub HasRoom : ℕ → ℕ → Vec Undo → Type 0
HasRoom room keep new = (keep + length new.items ≤ room) ⊎ (keep + length new.items ≤ vec_capacity new)

-- the message is sound on the text at the tip; it leads to the text `after`, and the undo takes it back
pub record Grows (message : Message) (units : List ℕ) (tip : Tip) (undo : Undo) (after : List ℕ) : Type 0 where
  pub sound : IsSound message (tip.since + 1) tip.interval units
  pub text : after ≡ text_after message.patch units
  pub name : undo.after.name ≡ name_of message
  pub hash : undo.after.hash ≡ document_hash after
  pub since : undo.after.since ≡ since_after message.kind tip.since
  pub interval : undo.after.interval ≡ interval_of message.kind tip.interval
  pub kind : undo.kind ≡ message.kind
  pub inverse : undo.inverse ≡ inverse message.patch units
  pub applies : CanApply undo.inverse after
  pub undoes : text_after undo.inverse after ≡ units

-- the messages held at the names of these undos, the newest first, lead from the text at the tip to the text `after`
abbrev pub LeadsTo : (Name → Option Held) → List ℕ → Tip → List Undo → List ℕ → Type 0
LeadsTo table units tip [] after = after ≡ units
LeadsTo table units tip (undo ∷ undos) after =
    (held : Held) × (before : List ℕ) × (table undo.after.name ≡ Some held) × Grows held.message before (tip_after tip undos) undo after × LeadsTo table units tip undos before

-- The path `path` on the root is sound, and the branch that was tested is that path: `joined` on what stays of the path
-- `chosen`. No message of `joined` is among those that leave.
pub record IsWon (base : Base) (received below chosen path : List Message) (branch : State) (table : Name → Option Held) (keep : ℕ) (new : List Undo) (units : List ℕ) : Type 0 where
  pub trunk : IsTrunk base received below path (switched branch keep new units)
  pub sound : EachSound base (path ++ below)
  pub joined : List Message
  pub whole : path ≡ joined ++ drop (length chosen - keep) chosen
  pub named : reverse joined ≡ messages_at table (map undone_name new)
  pub apart : (message : Message) → Contains (take (length chosen - keep) chosen) message → ¬ (Contains joined message)

-- the branch with its root risen by so many messages
abbrev pub risen : ℕ → State → State
risen by branch = record { root = tip_after branch.root (reverse (take by branch.undos)); low = branch.low + by; undos = drop by branch.undos; units = branch.units }

-- of the path, which stands on the root `below`, the first message that is not sound has this name
pub record IsStopped (base : Base) (received below path : List Message) (name : Name) : Type 0 where
  pub over : List Message
  pub message : Message
  pub under : List Message
  pub whole : path ≡ over ++ message ∷ under
  pub named : name_of message ≡ name
  pub first : IsFirstUnsound base received name
