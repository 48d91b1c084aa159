-- What was chosen.
use Rattle.std.specs.Prelude.{◌≡◌, ℕ, ◌<◌, List, All, reverse}
use Rattle.pad_message.specs.declared.message.Message.{Message}
use Rattle.pad_model.specs.declared.base.Base.{Base}
use Rattle.pad_model.specs.Choice.{Choice, IsChoice}
use Rattle.pad_plain.specs.declared.choice.Chosen.{Chosen}
use Rattle.pad_plain.specs.Tip.{IsTipOf}
use Rattle.pad_plain.specs.Inside.Walk.{messages_at}

-- it is this choice
pub record IsChosenAs (base : Base) (received : List Message) (chosen : Chosen) (choice : Choice) : Type 0 where
  pub is_choice : IsChoice base (reverse received) choice
  pub path : messages_at received chosen.path.places.items ≡ choice.chosen
  pub tip : IsTipOf base choice.chosen chosen.path.tip
  pub root_tip : IsTipOf base choice.root chosen.root
  pub overtook : chosen.overtaken ≡ choice.overtaken

-- it is the choice after the messages
abbrev pub IsChosen : Base → List Message → Chosen → Type 0
IsChosen base received chosen = (choice : Choice) × IsChosenAs base received chosen choice

-- its places are those of the first messages
abbrev pub IsWithin : ℕ → Chosen → Type 0
IsWithin count chosen = All (λ place. place < count) chosen.path.places.items
