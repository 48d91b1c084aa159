-- A repair: the full history is heard anew, and received into a chain of the first base that never drops a message. At its end that
-- chain takes the old one's place.
use Rattle.std.specs.Prelude.{◌≡◌, Bool, true, false, List, ◌∷◌, Contains}
use Rattle.pad_text.specs.Hash.{document_hash}
use Rattle.pad_message.specs.declared.message.Message.{Message}
use Rattle.pad_model.specs.Base.{first_base}
use Rattle.pad_model.specs.Path.{last_name, IsPath}
use Rattle.pad_stroke.specs.Work.{empty}
use Rattle.pad_chain.specs.declared.moved.Moved.{Moved}
use Rattle.pad_chain.specs.Tie.{IsWholeChoice}
use Rattle.pad_chain.specs.Moved.{IsMoved}
use Rattle.client_work.specs.Switch.{switched, draft_at}
use Rattle.client_copy.specs.Pad.{Pad, committed, best_name}
use Rattle.client_copy.specs.State.{Copy}
use Rattle.client_copy.specs.View.{View, StandsAs}

-- a message that a repair heard is one of all that came; nothing else changes before its end
abbrev pub noted : Message → Copy → Copy
noted message copy = record copy { pad = record copy.pad { all = message ∷ copy.pad.all } }

-- the pad of the new chain
pub record IsRepaired (before : Pad) (received : List Message) (pad : Pad) : Type 0 where
  pub all : pad.all ≡ before.all
  pub base : pad.base ≡ first_base
  pub received_all : pad.received ≡ received
  pub whole : pad.whole ≡ true
  pub choice : IsWholeChoice first_base received pad.choice

-- the path ends in the old best message, or at the new base if that was the old best name
pub record LeadsToOldBest (before : Pad) (received path : List Message) : Type 0 where
  pub is_path : IsPath first_base received path
  pub last : last_name first_base path ≡ best_name before

-- the new chain, which received these messages, takes the old one's place
pub data EndsRepair (before : Copy) (received : List Message) : Bool → Copy → Type 0 where
  -- the work goes on from the path to the old best message
  goes_on : (pad : Pad) (path : List Message) (moved : Moved) → IsRepaired before.pad received pad → LeadsToOldBest before.pad received path → IsMoved first_base path pad.choice.chosen moved
      → EndsRepair before received true (record before { pad = pad; work = (switched before.sent moved (draft_at first_base path before.work)).work })
  -- there is no such path: the work is emptied
  starts_anew : (pad : Pad) → IsRepaired before.pad received pad → ((path : List Message) → ¬ (LeadsToOldBest before.pad received path))
      → EndsRepair before received false (record before { pad = pad; work = empty (document_hash (committed pad)) })

-- all these messages are among those
abbrev pub AreAmong : List Message → List Message → Type 0
AreAmong some all = (message : Message) → Contains some message → Contains all message

-- a working copy stands for the same state with a message that was heard
abbrev pub NotedStands : Type 0
NotedStands = (held : View) (copy : Copy) (message : Message) → StandsAs held copy → StandsAs held (noted message copy)
