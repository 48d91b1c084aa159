-- What own messages that are made have for their names: no other message of the client has one of them. The state before tells so, or
-- else the outbox after.
use Rattle.std.specs.Prelude.{◌⊎◌, List, ◌∷◌, ◌++◌, ℕ}
use Rattle.pad_message.specs.declared.message.Message.{Message}
use Rattle.client_copy.specs.Make.{IsCheckpointOf, IsPatchOf}
use Rattle.client_copy.specs.View.{NoClash}
use Rattle.client_requests.specs.State as requested
use Rattle.pad_client.specs.State.{ClientState}
use Rattle.pad_client.specs.Sync.{Makes, own_messages}

-- no names clash among all messages of the client and those of an outbox
abbrev pub DiffersFrom : ClientState → requested.State → Type 0
DiffersFrom client requests = NoClash (own_messages requests.outbox ++ client.copy.pad.all)

-- nor with the patch message of its work
abbrev pub WorkDiffers : ClientState → Type 0
WorkDiffers client = (message : Message) → IsPatchOf client.copy message → NoClash (message ∷ client.copy.pad.all)

-- nor with the checkpoint of its text, and the patch message that is made after it
pub record BothDiffer (client : ClientState) : Type 0 where
  pub checkpoint : (message : Message) → IsCheckpointOf client.copy client.wanted message → NoClash (message ∷ client.copy.pad.all)
  pub both : (message next : Message) (wire : List ℕ) (middle : ClientState) → IsCheckpointOf client.copy client.wanted message → Makes client message wire middle
      → IsPatchOf middle.copy next → NoClash (next ∷ message ∷ client.copy.pad.all)

abbrev pub WorkHasName : ClientState → requested.State → Type 0
WorkHasName client after = WorkDiffers client ⊎ DiffersFrom client after

abbrev pub BothHaveNames : ClientState → requested.State → Type 0
BothHaveNames client after = BothDiffer client ⊎ DiffersFrom client after
