-- Why calls are refused. Of the causes that hold the first in the stated order is told: each says that no earlier one holds.
use Rattle.std.specs.Prelude.{◌≡◌, ◌≢◌, ◌||◌, is_some, Bool, true, false, Option, Some, None, List, ℕ}
use Rattle.client_requests.specs.declared.client_refused.ClientRefused.{ClientRefused}
use Rattle.client_requests.specs.declared.client_refused.ClientRefused.TheVariants.{Repairing, NotJoined, Joined, OtherChannel, NoKeeper, Asking, NoMemory}
use Rattle.client_requests.specs.State.{State, repairs, asks}

-- ---- join

-- a channel is joined or being joined
abbrev pub is_in : State → Bool
is_in state = state.joined || is_some state.joining

-- the client joined another channel before
abbrev pub IsOther : Option (List ℕ) → List ℕ → Type 0
IsOther None channel = ⊥
IsOther (Some joined) channel = joined ≢ channel

abbrev pub IsJoinCause : State → List ℕ → ClientRefused → Type 0
IsJoinCause state channel Joined = is_in state ≡ true
IsJoinCause state channel OtherChannel = (is_in state ≡ false) × IsOther state.channel channel
IsJoinCause state channel (NoMemory error) = Unit {0}
IsJoinCause state channel Repairing = ⊥
IsJoinCause state channel NotJoined = ⊥
IsJoinCause state channel NoKeeper = ⊥
IsJoinCause state channel Asking = ⊥

pub record MayJoin (state : State) (channel : List ℕ) : Type 0 where
  pub out : is_in state ≡ false
  pub same : ¬ (IsOther state.channel channel)

-- ---- leave, resend

abbrev pub IsOpenCause : State → ClientRefused → Type 0
IsOpenCause state Repairing = repairs state.asked ≡ true
IsOpenCause state NotJoined = (repairs state.asked ≡ false) × (state.joined ≡ false)
IsOpenCause state (NoMemory error) = Unit {0}
IsOpenCause state Joined = ⊥
IsOpenCause state OtherChannel = ⊥
IsOpenCause state NoKeeper = ⊥
IsOpenCause state Asking = ⊥

-- no repair runs, and a channel is joined
pub record IsOpen (state : State) : Type 0 where
  pub quiet : repairs state.asked ≡ false
  pub joined : state.joined ≡ true

-- ---- ask, repair

abbrev pub IsAskCause : State → ClientRefused → Type 0
IsAskCause state Repairing = repairs state.asked ≡ true
IsAskCause state NotJoined = (repairs state.asked ≡ false) × (state.joined ≡ false)
IsAskCause state NoKeeper = IsOpen state × (state.keeper ≡ None)
IsAskCause state Asking = IsOpen state × (is_some state.keeper ≡ true) × (asks state.asked ≡ true)
IsAskCause state (NoMemory error) = Unit {0}
IsAskCause state Joined = ⊥
IsAskCause state OtherChannel = ⊥

pub record MayAsk (state : State) : Type 0 where
  pub open_now : IsOpen state
  pub keeper : is_some state.keeper ≡ true
  pub silent : asks state.asked ≡ false
