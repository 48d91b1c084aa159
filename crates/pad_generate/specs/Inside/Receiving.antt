-- What is received of contents that all are read.
use Rattle.std.specs.Prelude.{◌≡◌, ℕ, List}
use Rattle.std.specs.List.{AllZip}
use Rattle.pad_message.specs.Content.{Reads}
use Rattle.pad_received.specs.Progress.{Progress, IsAt}
use Rattle.pad_received.specs.declared.received.Received.{Received}

-- it is what all these contents read as, of which each reads as a message
pub record IsReceivedOf (contents : List (List ℕ)) (received : Received) : Type 0 where
  pub progress : Progress
  pub read : AllZip Reads contents progress.messages
  pub none : progress.unreadable ≡ 0
  pub at : IsAt received progress
