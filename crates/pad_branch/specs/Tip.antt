-- What stands at the end of a path, besides the text.
use Rattle.std.specs.Prelude.{◌≡◌, ℕ, ◌+◌, ◌≤◌, List, [], ◌∷◌, length, if◌then◌else◌}
use Rattle.pad_text.specs.Hash.{document_hash}
use Rattle.pad_patch.specs.Misfit.{longest_text}
use Rattle.pad_message.specs.declared.kind.Kind.{Kind}
use Rattle.pad_message.specs.declared.message.Message.{Message}
use Rattle.pad_message.specs.Kind.{is_checkpoint, IsInterval}
use Rattle.pad_model.specs.declared.base.Base.{Base}
use Rattle.pad_model.specs.Path.{last_name, text, since_checkpoint, interval}
use Rattle.pad_branch.specs.declared.tip.Tip.{Tip}
use Rattle.pad_branch.specs.declared.undo.Undo.{Undo}

-- the tip is that of the path
pub record IsTip (base : Base) (path : List Message) (tip : Tip) : Type 0 where
  pub name : tip.name ≡ last_name base path
  pub hash : tip.hash ≡ document_hash (text base path)
  pub since : tip.since ≡ since_checkpoint path
  pub interval : tip.interval ≡ interval base path

-- the tip can be that of a path of so many messages with this text
pub record IsTipOf (tip : Tip) (height : ℕ) (units : List ℕ) : Type 0 where
  pub hash : tip.hash ≡ document_hash units
  pub short : length units ≤ longest_text
  pub interval : IsInterval tip.interval
  pub few : tip.since ≤ height

-- how many messages come after the last checkpoint, after a message of this kind
abbrev pub since_after : Kind → ℕ → ℕ
since_after kind before = if is_checkpoint kind then 0 else before + 1

-- the tip after the messages that these undos take back, the newest first, from the tip of the root on
abbrev pub tip_after : Tip → List Undo → Tip
tip_after root [] = root
tip_after root (undo ∷ undos) = undo.after
