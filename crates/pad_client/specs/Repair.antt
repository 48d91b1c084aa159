-- A repair: the full history is asked, and what is heard meanwhile is received apart from the pad. At the end of that history it
-- takes the pad's place.
use Rattle.std.specs.Prelude.{◌≡◌, ℕ, Option, Some, None, List, ◌++◌, reverse, Bool}
use Rattle.pad_message.specs.declared.message.Message.{Message}
use Rattle.netflux_codec.specs.declared.since.Since.TheVariants as since
use Rattle.client_copy.specs.State.{Copy}
use Rattle.client_copy.specs.Repair.{EndsRepair}
use Rattle.client_outbox.specs.Outbox.{Unacknowledged}
use Rattle.client_requests.specs.declared.asked.Asked.{Asked}
use Rattle.client_requests.specs.declared.asked.Asked.TheVariants.{Nothing, History, Repair}
use Rattle.client_requests.specs.State as requested
use Rattle.client_requests.specs.Calls.{Questions, with_repair}
use Rattle.client_requests.specs.Hear.{with_nothing_asked}
use Rattle.pad_client.specs.State.{State, ClientState}
use Rattle.pad_client.specs.Sync.{own_messages}

-- all these messages came, the newest first: a repair received them, and nothing else changes before its end
abbrev pub all_noted : List Message → Copy → Copy
all_noted messages copy = record copy { pad = record copy.pad { all = messages ++ copy.pad.all } }

-- the messages of an outbox, as they are received in its order: the newest first
abbrev pub sent_before : List Unacknowledged → List Message
sent_before outbox = reverse (own_messages outbox)

-- a repair begins: the keeper is asked for the full history, and the messages of the outbox are received
pub record BeginsRepair (before : ClientState) (wire : List ℕ) (after : ClientState) : Type 0 where
  pub question : Questions before.requests since.All wire
  pub state : after ≡ record before {
    copy = all_noted (sent_before before.requests.outbox) before.copy;
    requests = with_repair before.requests;
    repair = Some (sent_before before.requests.outbox);
  }

-- what a repair has received, as long as one is asked: what a repair received that is given up is dropped
abbrev pub while_asked : {R : Type 0} → Asked → Option R → Option R
while_asked Nothing repair = None
while_asked (History number fresh) repair = None
while_asked (Repair number) repair = repair

-- the client with this for its requests, which may have given up a repair: the pad stays as it was then
abbrev pub with_answered : {C R : Type 0} → requested.State → State C R → State C R
with_answered requests client = record client { requests = requests; repair = while_asked requests.asked client.repair }

-- the history of a repair has ended: what it received takes the pad's place. `found` tells whether the work goes on from the old
-- best message.
pub record HearsRepaired (before : ClientState) (received : List Message) (found : Bool) (after : ClientState) : Type 0 where
  pub copy : Copy
  pub ends : EndsRepair before.copy received found copy
  pub state : after ≡ record before { copy = copy; requests = with_nothing_asked before.requests; repair = None }
