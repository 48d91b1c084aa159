-- The best chain.
use Rattle.std.specs.Prelude.{◌≡◌, ◌<◌, ◌⊎◌, List, length}
use Rattle.pad_text.specs.Name.{NameLess}
use Rattle.pad_message.specs.declared.message.Message.{Message}
use Rattle.pad_model.specs.declared.base.Base.{Base}
use Rattle.pad_model.specs.Path.{last_name, IsPath}

-- the first path is longer, or equally long with a lesser last name
abbrev pub IsBetter : Base → List Message → List Message → Type 0
IsBetter base path other =
    (length other < length path) ⊎ ((length path ≡ length other) × NameLess (last_name base path) (last_name base other))

-- it is a path of the messages received, and no such path is better
pub record IsBest (base : Base) (received best : List Message) : Type 0 where
  pub path : IsPath base received best
  pub none_better : (other : List Message) → IsPath base received other → ¬ (IsBetter base other best)
