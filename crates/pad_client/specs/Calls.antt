-- The calls that leave pad and requests.
use Rattle.std.specs.Prelude.{◌≡◌, false, Some, List, ℕ}
use Rattle.pad_patch.specs.declared.operation.Operation.{Operation}
use Rattle.client_copy.specs.State as copies
use Rattle.client_copy.specs.Calls as copy
use Rattle.client_requests.specs.State.{repairs}
use Rattle.pad_client.specs.State.{State}

-- no repair runs, and the working copy is edited, whose committed text is `text`
pub record Edits {P W R : Type 0} (text : List ℕ) (before : State (copies.State P W) R) (operation : Operation) (after : State (copies.State P W) R) : Type 0 where
  pub quiet : repairs before.requests.asked ≡ false
  pub edited : copies.State P W
  pub edits : copy.Edits text before.copy operation edited
  pub state : after ≡ record before { copy = edited }

-- the interval of the next checkpoint is set
abbrev pub with_interval : {C R : Type 0} → ℕ → State C R → State C R
with_interval interval client = record client { wanted = Some interval }
