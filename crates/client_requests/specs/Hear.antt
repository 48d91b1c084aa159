-- What a reply does to what was requested.
use Rattle.std.specs.Prelude.{◌≡◌, ◌⊎◌, ℕ, ◌==◌, not, Bool, true, false, Option, Some, None, List, filter, Contains}
use Rattle.pad_text.specs.declared.name.Name.{Name}
use Rattle.client_outbox.specs.Outbox.{IsAwaited, without_number, without_name, forgotten_under}
use Rattle.client_requests.specs.declared.asked.Asked.{Asked}
use Rattle.client_requests.specs.declared.asked.Asked.TheVariants.{Nothing, History, Repair}
use Rattle.client_requests.specs.declared.joining.Joining.{Joining}
use Rattle.client_requests.specs.State.{State, IsAskedUnder, used}

-- the one if P holds, and else the other
abbrev pub Either : Type 0 → Type 0 → Type 0 → Type 0
Either P one other = (P × one) ⊎ (¬ P × other)

-- ---- an error

-- the channel is being joined under the number
abbrev pub IsJoiningUnder : ℕ → Option Joining → Type 0
IsJoiningUnder number None = ⊥
IsJoiningUnder number (Some joining) = number ≡ joining.number

-- Nothing is joined, left, asked or sent under the number any more. A repair of this number is given up; an own message stays in
-- the outbox.
pub record Forgets (number : ℕ) (before after : State) : Type 0 where
  pub joining : Option Joining
  pub not_joining : Either (IsJoiningUnder number before.joining) (joining ≡ None) (joining ≡ before.joining)
  pub asked : Asked
  pub not_asked : Either (IsAskedUnder number before.asked) (asked ≡ Nothing) (asked ≡ before.asked)
  pub state : after ≡ record before {
    joining = joining;
    asked = asked;
    leaves = filter (λ (other : ℕ). not (number == other)) before.leaves;
    outbox = forgotten_under number before.outbox;
  }

-- ---- who is in a channel

-- the channel is being joined
abbrev pub IsJoining : Option Joining → List ℕ → Type 0
IsJoining None channel = ⊥
IsJoining (Some joining) channel = joining.channel ≡ channel

-- the client itself is in the channel that is being joined
pub record IsOwnJoin (state : State) (id channel : List ℕ) : Type 0 where
  pub joining : IsJoining state.joining channel
  pub own : state.identity ≡ Some id

-- its own text joins the client to the channel
abbrev pub HearsMember : State → List ℕ → List ℕ → Bool → State → Type 0
HearsMember before id channel joins after =
    Either (IsOwnJoin before id channel)
    ((joins ≡ true) × (after ≡ record before { joining = None; joined = true; channel = Some channel }))
    ((joins ≡ false) × (after ≡ before))

-- the channel that is being joined, and if none is, the one that was joined
abbrev pub its_channel : Option Joining → Option (List ℕ) → Option (List ℕ)
its_channel None channel = channel
its_channel (Some joining) channel = Some joining.channel

-- the keeper of its channel is kept for questions
abbrev pub HearsKeeper : State → List ℕ → List ℕ → State → Type 0
HearsKeeper before keeper channel after = Either (its_channel before.joining before.channel ≡ Some channel) (after ≡ record before { keeper = Some keeper }) (after ≡ before)

-- ---- an acknowledgement

-- of a leave that awaits its answer; else of a message of the outbox that does; else of nothing
abbrev pub HearsAck : State → ℕ → Bool → State → Type 0
HearsAck before number acknowledges after =
    Either (Contains before.leaves number)
    ((acknowledges ≡ true) × (after ≡ record before { joined = false; leaves = filter (λ (other : ℕ). not (number == other)) before.leaves }))
    (Either (IsAwaited number before.outbox)
    ((acknowledges ≡ true) × (after ≡ record before { outbox = without_number number before.outbox }))
    ((acknowledges ≡ false) × (after ≡ before)))

-- ---- a history

-- it has ended, with or without an answer
abbrev pub with_nothing_asked : State → State
with_nothing_asked state = record state { asked = Nothing }

-- an entry of it was heard
abbrev pub with_entry : State → State
with_entry state = record state { asked = used state.asked }

-- an entry of it has this name: own messages of the name are acknowledged
abbrev pub with_entry_of : Name → State → State
with_entry_of name state = record state { asked = used state.asked; outbox = without_name name state.outbox }
