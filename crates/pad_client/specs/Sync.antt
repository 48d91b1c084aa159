-- A sync: own messages are made, received and sent.
use Rattle.std.specs.Prelude.{◌≡◌, ◌≢◌, true, false, None, List, [], ◌∷◌, ◌++◌, map, ℕ}
use Rattle.pad_message.specs.declared.message.Message.{Message}
use Rattle.pad_chain.specs.declared.moved.Moved.{Moved}
use Rattle.client_copy.specs.State.{Copy}
use Rattle.client_copy.specs.Make as copy
use Rattle.client_copy.specs.Make.{IsCheckpointOf, IsPatchOf}
use Rattle.client_copy.specs.View.{NoClash}
use Rattle.client_outbox.specs.Outbox.{Unacknowledged}
use Rattle.client_requests.specs.State as requested
use Rattle.client_requests.specs.Calls.{Sends}
use Rattle.pad_client.specs.State.{ClientState}
use Rattle.pad_client.specs.Refusal.{is_due, MaySync, messages_made}

-- the messages of an outbox
abbrev pub own_messages : List Unacknowledged → List Message
own_messages outbox = map (λ (own : Unacknowledged). own.message) outbox

-- an own message is received by the client's own chain, and sent to the channel under the next number
pub record Makes (before : ClientState) (message : Message) (wire : List ℕ) (after : ClientState) : Type 0 where
  pub requests : requested.State
  pub sends : Sends before.requests message wire requests
  pub moved : Moved
  pub made : Copy
  pub makes : copy.Makes before.copy message moved made
  pub state : after ≡ record before { copy = made; requests = requests; synced = before.synced ++ moved.applied }

-- the patch message of the work is made on the best chain, also if the work is empty, and sent
pub record SendsWork (before : ClientState) (wires : List (List ℕ)) (after : ClientState) : Type 0 where
  pub message : Message
  pub is_patch : IsPatchOf before.copy message
  pub wire : List ℕ
  pub makes : Makes before message wire after
  pub texts : wires ≡ wire ∷ []

-- a checkpoint is made and sent first, which carries the interval that the user set last; the patch message is made of chain and work
-- as they are after that
pub record SendsBoth (before : ClientState) (wires : List (List ℕ)) (after : ClientState) : Type 0 where
  pub message : Message
  pub is_checkpoint : IsCheckpointOf before.copy before.wanted message
  pub wire : List ℕ
  pub middle : ClientState
  pub makes : Makes before message wire middle
  pub rest : List (List ℕ)
  pub work : SendsWork (record middle { wanted = None }) rest after
  pub texts : wires ≡ wire ∷ rest

-- a sync that is not refused
pub data Syncs (before : ClientState) : List (List ℕ) → ClientState → Type 0 where
  -- an empty work sends nothing
  idle : MaySync before → before.copy.work.patch.ops ≡ [] → Syncs before [] (record before { synced = [] })
  -- the checkpoint goes first if the next message of the best chain may be one
  sends_work : (wires : List (List ℕ)) (after : ClientState) → MaySync before → before.copy.work.patch.ops ≢ [] → is_due before.copy.pad ≡ false
      → SendsWork (record before { synced = [] }) wires after → Syncs before wires after
  sends_both : (wires : List (List ℕ)) (after : ClientState) → MaySync before → before.copy.work.patch.ops ≢ [] → is_due before.copy.pad ≡ true
      → SendsBoth (record before { synced = [] }) wires after → Syncs before wires after

-- ---- the premise on names

-- the client may sync, and that makes so many messages
abbrev pub WouldMake : ClientState → ℕ → Type 0
WouldMake client count = MaySync client × (messages_made client ≡ count)

-- no names clash among all messages that the client ever received or made, nor with those that a sync makes now: the patch message
-- alone, or a checkpoint and then the patch message
pub record DiffersAfterSync (client : ClientState) : Type 0 where
  pub now : NoClash client.copy.pad.all
  pub work : WouldMake client 1 → (message : Message) → IsPatchOf client.copy message → NoClash (message ∷ client.copy.pad.all)
  pub checkpoint : WouldMake client 2 → (message : Message) → IsCheckpointOf client.copy client.wanted message → NoClash (message ∷ client.copy.pad.all)
  pub both : WouldMake client 2 → (message next : Message) (wire : List ℕ) (middle : ClientState) → IsCheckpointOf client.copy client.wanted message
      → Makes (record client { synced = [] }) message wire middle → IsPatchOf middle.copy next → NoClash (next ∷ message ∷ client.copy.pad.all)
