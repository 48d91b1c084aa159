-- A message is received, and the work follows what moved.
use Rattle.std.specs.Prelude.{◌≡◌}
use Rattle.pad_message.specs.declared.message.Message.{Message}
use Rattle.pad_chain.specs.declared.moved.Moved.{Moved}
use Rattle.client_work.specs.Switch.{switched}
use Rattle.client_copy.specs.Pad.{Pad, Receives, committed}
use Rattle.client_copy.specs.State.{Copy}

-- the pad receives the message, and the work is switched along by what moved
pub record Follows (before : Copy) (message : Message) (moved : Moved) (after : Copy) : Type 0 where
  pub pad : Pad
  pub received : Receives before.pad message moved pad
  pub state : after ≡ record before { pad = pad; work = (switched before.sent moved (record { text = committed before.pad; work = before.work })).work }
