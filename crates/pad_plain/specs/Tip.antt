-- The end of a path.
use Rattle.std.specs.Prelude.{◌≡◌, List, length}
use Rattle.pad_message.specs.declared.message.Message.{Message}
use Rattle.pad_model.specs.declared.base.Base.{Base}
use Rattle.pad_model.specs.Path.{last_name}
use Rattle.pad_plain.specs.declared.path.Tip.{Tip}

-- it is the last name and the height of the path
pub record IsTipOf (base : Base) (path : List Message) (tip : Tip) : Type 0 where
  pub named : tip.name ≡ last_name base path
  pub high : tip.height ≡ length path
