-- What a client has requested, and what awaits its answer.
use Rattle.std.specs.Prelude.{◌≡◌, ℕ, ◌||◌, is_some, Bool, true, false, Option, None, List, [], ◌∷◌}
use Rattle.client_outbox.specs.Outbox.{Unacknowledged, some_awaits}
use Rattle.client_requests.specs.declared.asked.Asked.{Asked}
use Rattle.client_requests.specs.declared.asked.Asked.TheVariants.{Nothing, History, Repair}
use Rattle.client_requests.specs.declared.joining.Joining.{Joining}

pub record State : Type 0 where
  -- the number given out last to a request
  pub last : ℕ
  -- the channel that was joined; it stays once it was
  pub channel : Option (List ℕ)
  pub joined : Bool
  -- a channel that is being joined, and the number of the request
  pub joining : Option Joining
  -- the client's identity, and the keeper of its channel, as heard on this connection
  pub identity : Option (List ℕ)
  pub keeper : Option (List ℕ)
  pub asked : Asked
  -- the numbers of the leaves that await their answer, the oldest first
  pub leaves : List ℕ
  -- own messages that were not acknowledged, the oldest first
  pub outbox : List Unacknowledged

-- nothing was requested yet
abbrev pub no_requests : State
no_requests = record {
  last = 0;
  channel = None;
  joined = false;
  joining = None;
  identity = None;
  keeper = None;
  asked = Nothing;
  leaves = [];
  outbox = [];
}

-- a repair runs
abbrev pub repairs : Asked → Bool
repairs Nothing = false
repairs (History number fresh) = false
repairs (Repair number) = true

-- a history is asked, a repair's or another
abbrev pub asks : Asked → Bool
asks Nothing = false
asks (History number fresh) = true
asks (Repair number) = true

-- the next entry may be adopted
abbrev pub is_fresh : Asked → Bool
is_fresh Nothing = false
is_fresh (History number fresh) = fresh
is_fresh (Repair number) = false

-- it is asked under this number
abbrev pub IsAskedUnder : ℕ → Asked → Type 0
IsAskedUnder number Nothing = ⊥
IsAskedUnder number (History other fresh) = number ≡ other
IsAskedUnder number (Repair other) = number ≡ other

-- an entry was heard
abbrev pub used : Asked → Asked
used Nothing = Nothing
used (History number fresh) = History number false
used (Repair number) = Repair number

-- there is a number in the list
abbrev pub has_some : List ℕ → Bool
has_some [] = false
has_some (number ∷ numbers) = true

-- a join, a leave, a history or a message of the outbox still awaits its answer
abbrev pub awaits : State → Bool
awaits state = is_some state.joining || (has_some state.leaves || (asks state.asked || some_awaits state.outbox))
