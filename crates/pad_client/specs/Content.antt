-- A content that is heard for the client's channel: of a message to it, or of an entry of a history.
use Rattle.std.specs.Prelude.{◌≡◌, ℕ, ◌+◌, Bool, true, false, Option, Some, None, List, [], ◌∷◌}
use Rattle.pad_message.specs.declared.message.Message.{Message}
use Rattle.pad_message.specs.Message.{name_of}
use Rattle.pad_message.specs.Content.{Reads}
use Rattle.pad_model.specs.declared.base.Base.{Base}
use Rattle.pad_model.specs.Base.{first_base, Gives}
use Rattle.pad_chain.specs.declared.moved.Moved.{Moved}
use Rattle.pad_chain.specs.Knows.{IsFull}
use Rattle.client_copy.specs.Pad.{Pad}
use Rattle.client_copy.specs.State.{Copy}
use Rattle.client_copy.specs.Receive.{Follows}
use Rattle.client_copy.specs.Adopt.{Adopts, MayAdopt}
use Rattle.client_copy.specs.Repair.{noted}
use Rattle.client_requests.specs.State as requested
use Rattle.client_requests.specs.State.{is_fresh}
use Rattle.client_requests.specs.Hear.{with_entry, with_entry_of}
use Rattle.pad_client.specs.declared.heard.Heard.{Heard}
use Rattle.pad_client.specs.declared.heard.Heard.TheVariants as heard
use Rattle.pad_client.specs.State.{ClientState}

-- the content spells no message
abbrev pub IsUnreadable : List ℕ → Type 0
IsUnreadable content = (message : Message) → ¬ (Reads content message)

-- a message may be adopted: it is the first entry that was heard of a default history, and nothing was received before
pub record MayBeAdopted (client : ClientState) (entry : Bool) : Type 0 where
  pub of_history : entry ≡ true
  pub fresh : is_fresh client.requests.asked ≡ true
  pub may : MayAdopt client.copy.pad

-- the message is adopted: it may be, and it can be a base
pub record IsAdopted (client : ClientState) (entry : Bool) (message : Message) : Type 0 where
  pub may : MayBeAdopted client entry
  pub base : Base
  pub gives : Gives message base

-- a content was heard that spells no message; an entry is not the first any more
abbrev pub after_content : Bool → requested.State → requested.State
after_content true requests = with_entry requests
after_content false requests = requests

-- a message was heard; an entry acknowledges the own messages of its name
abbrev pub after_message : Bool → Message → requested.State → requested.State
after_message true message requests = with_entry_of (name_of message) requests
after_message false message requests = requests

-- the message is of a new name, and as many names are known as there may be: to the repair that runs, or else to the pad
abbrev pub MeetsFullFor : Pad → Option (List Message) → Message → Type 0
MeetsFullFor pad None message = IsFull pad.base pad.received message
MeetsFullFor pad (Some received) message = IsFull first_base received message

abbrev pub MeetsFull : ClientState → Message → Type 0
MeetsFull client message = MeetsFullFor client.copy.pad client.repair message

-- nothing moves
abbrev pub no_moves : Moved
no_moves = record { reverted = []; applied = [] }

-- what a message does, of an entry or not, and the answer
pub data HearsMessage (before : ClientState) (entry : Bool) (message : Message) : Heard → ClientState → Type 0 where
  -- it becomes the base, and the work keeps its insertions
  becomes_base : (copy : Copy) → before.repair ≡ None → IsAdopted before entry message → Adopts before.copy message copy
      → HearsMessage before entry message heard.Adopted (record before { copy = copy; requests = after_message entry message before.requests })
  -- it is received if there is room for its name, and the work follows what moved
  is_received : (moved : Moved) (copy : Copy) → before.repair ≡ None → ¬ (IsAdopted before entry message) → ¬ (MeetsFull before message) → Follows before.copy message moved copy
      → HearsMessage before entry message (heard.Content moved) (record before { copy = copy; requests = after_message entry message before.requests })
  -- a repair runs, which receives it if there is room for its name; the pad receives nothing, and nothing moves
  is_noted : (received : List Message) → before.repair ≡ Some received → ¬ (MeetsFull before message)
      → HearsMessage before entry message (heard.Content no_moves) (record before { copy = noted message before.copy; requests = after_message entry message before.requests; repair = Some (message ∷ received) })

-- what a content does, which is an entry or not, and the answer
pub data HearsContent (before : ClientState) (entry : Bool) (content : List ℕ) : Heard → ClientState → Type 0 where
  -- it is counted
  is_counted : IsUnreadable content
      → HearsContent before entry content heard.Unreadable (record before { unreadable = before.unreadable + 1; requests = after_content entry before.requests })
  is_message : (message : Message) (answer : Heard) (after : ClientState) → Reads content message → HearsMessage before entry message answer after
      → HearsContent before entry content answer after
