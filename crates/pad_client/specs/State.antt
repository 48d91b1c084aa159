-- The state of a client.
use Rattle.std.specs.Prelude.{ℕ, Option, None, List, []}
use Rattle.pad_message.specs.declared.message.Message.{Message}
use Rattle.pad_branch.specs.declared.moved.Move.{Move}
use Rattle.client_copy.specs.State as copies
use Rattle.client_requests.specs.State as requested

-- `C` stands for the working copy, and `R` for what a repair has received: of the machine the copy's state and a list; in code what
-- contracts see of the copy, and a chain
pub record State (C R : Type 0) : Type 0 where
  pub copy : C
  -- how many contents spelled no message
  pub unreadable : ℕ
  -- the interval that the user set last and that no checkpoint has carried yet
  pub wanted : Option ℕ
  -- what was requested, and what awaits its answer
  pub requests : requested.State
  -- what the repair that runs has received; nothing if none runs
  pub repair : Option R
  -- what the last sync that was not refused brought onto the best chain
  pub synced : List Move

-- the machine's state: what a repair has received has the newest first
abbrev pub ClientState : Type 0
ClientState = State copies.Copy (List Message)

-- a new client
abbrev pub new_client : ClientState
new_client = record { copy = copies.new_copy; unreadable = 0; wanted = None; requests = requested.no_requests; repair = None; synced = [] }

-- the client with this for its requests: what touches them alone changes nothing else
abbrev pub with_requests : {C R : Type 0} → requested.State → State C R → State C R
with_requests requests client = record client { requests = requests }
