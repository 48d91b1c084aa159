-- The state of a client with its connection.
use Rattle.std.specs.Prelude.{◌≡◌, ℕ, Bool, false, if◌then◌else◌, List, []}
use Rattle.client_requests.specs.Calls.{without_connection}
use Rattle.pad_client.specs.State as clients
use Rattle.pad_client.specs.State.{ClientState, new_client}
use Rattle.pad_client.specs.Repair.{with_answered}
use Rattle.pad_client.specs.View as views

-- `C` stands for the client: the machine's state, or what contracts see of it
pub record State (C : Type 0) : Type 0 where
  pub client : C
  -- whether it has a connection
  pub connected : Bool
  -- the texts on their way to the hub, and to the client, the first to come first
  pub up : List (List ℕ)
  pub down : List (List ℕ)

abbrev pub SeatState : Type 0
SeatState = State ClientState

abbrev pub View : Type 0
View = State views.View

-- a new client without a connection
abbrev pub new_seat : SeatState
new_seat = record { client = new_client; connected = false; up = []; down = [] }

-- what is in memory stands for the machine's state
pub record StandsAs (held : View) (seat : SeatState) : Type 0 where
  pub client : views.StandsAs held.client seat.client
  pub connected : held.connected ≡ seat.connected
  pub up : held.up ≡ seat.up
  pub down : held.down ≡ seat.down

-- One that has a connection loses it: the client has lost it, and both queues are emptied.
abbrev pub without_seat : {C R : Type 0} → State (clients.State C R) → State (clients.State C R)
without_seat seat = if seat.connected
    then record { client = with_answered (without_connection seat.client.requests) seat.client; connected = false; up = []; down = [] }
    else seat
