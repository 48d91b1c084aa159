-- A pad: the messages received since a base, and what is chosen of them.
use Rattle.std.specs.Prelude.{◌≡◌, ℕ, Bool, false, List, [], ◌∷◌}
use Rattle.pad_text.specs.declared.name.Name.{Name}
use Rattle.pad_message.specs.declared.message.Message.{Message}
use Rattle.pad_model.specs.declared.base.Base.{Base}
use Rattle.pad_model.specs.Path.{text, last_name, interval}
use Rattle.pad_model.specs.Choice.{Choice, first_choice}
use Rattle.pad_chain.specs.declared.moved.Moved.{Moved}
use Rattle.pad_chain.specs.Moved.{IsMoved}
use Rattle.pad_chain.specs.Tie.{IsChosenNext}

pub record Pad : Type 0 where
  -- each message that was ever received or made, also before this base and in a repair, the newest first: of these the premise
  -- speaks that no names clash
  pub all : List Message
  pub base : Base
  -- the messages received since the base, the newest first
  pub received : List Message
  -- a repair has ended: nothing is dropped any more
  pub whole : Bool
  pub choice : Choice

-- the pad of a base of which nothing was received, after all these messages
abbrev pub begun : List Message → Base → Pad
begun all base = record { all = all; base = base; received = []; whole = false; choice = first_choice }

-- the committed text
abbrev pub committed : Pad → List ℕ
committed pad = text pad.base pad.choice.chosen

-- the name of the last message of the best chain, or the base's
abbrev pub best_name : Pad → Name
best_name pad = last_name pad.base pad.choice.chosen

-- the interval in force after the best chain
abbrev pub interval_now : Pad → ℕ
interval_now pad = interval pad.base pad.choice.chosen

-- the message is received, and the best chain changes by these moves
pub record Receives (before : Pad) (message : Message) (moved : Moved) (after : Pad) : Type 0 where
  pub all : after.all ≡ message ∷ before.all
  pub base : after.base ≡ before.base
  pub received : after.received ≡ message ∷ before.received
  pub whole : after.whole ≡ before.whole
  pub chosen : IsChosenNext before.whole before.base before.received message before.choice after.choice
  pub moves : IsMoved before.base before.choice.chosen after.choice.chosen moved
