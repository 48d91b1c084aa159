-- Going forward on a path.
use Rattle.std.specs.Prelude.{◌≡◌, ℕ, List, ◌∷◌, ◌++◌}
use Rattle.pad_text.specs.declared.name.Name.{Name}
use Rattle.pad_message.specs.declared.message.Message.{Message}
use Rattle.pad_message.specs.Message.{name_of}
use Rattle.pad_model.specs.declared.base.Base.{Base}
use Rattle.pad_model.specs.Path.{text, IsSoundOn, EachSound}
use Rattle.pad_branch.specs.declared.tip.Tip.{Tip}
use Rattle.pad_branch.specs.Tip.{IsTip}

-- the path ends with this text at this tip
pub record IsAt (base : Base) (path : List Message) (units : List ℕ) (tip : Tip) : Type 0 where
  pub text : units ≡ text base path
  pub tip_is : IsTip base path tip

-- of the messages of `line`, which stand on the path, the first one that is not sound has this name
pub record StopsAt (base : Base) (path line : List Message) (name : Name) : Type 0 where
  pub above : List Message
  pub message : Message
  pub below : List Message
  pub whole : line ≡ above ++ message ∷ below
  pub named : name_of message ≡ name
  pub sound : EachSound base path → EachSound base (below ++ path)
  pub unsound : ¬ (IsSoundOn base (below ++ path) message)
