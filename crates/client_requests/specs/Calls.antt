-- The calls: what they send, and the state after them. All else stays.
use Rattle.std.specs.Prelude.{◌≡◌, ℕ, ◌+◌, true, false, Bool, Some, None, List, [], ◌∷◌, ◌++◌, length}
use Rattle.pad_message.specs.declared.message.Message.{Message}
use Rattle.netflux_codec.specs.declared.since.Since.{Since}
use Rattle.netflux_codec.specs.declared.since.Since.TheVariants as since
use Rattle.netflux_codec.specs.declared.body.Body.TheVariants.{Join, Leave, Msg}
use Rattle.netflux_codec.specs.declared.ask.Ask.TheVariants as ask
use Rattle.netflux_codec.specs.Request.{request_text}
use Rattle.netflux_codec.specs.Ask.{ask_text}
use Rattle.client_outbox.specs.Outbox.{message_request, all_forgotten, sent_again, texts_again}
use Rattle.client_requests.specs.declared.asked.Asked.TheVariants.{Nothing, History, Repair}
use Rattle.client_requests.specs.State.{State}
use Rattle.client_requests.specs.Refusal.{MayJoin, IsOpen, MayAsk}

-- the client joins a channel: only a keeper that is heard from now on is asked
pub record Joins (before : State) (channel wire : List ℕ) (after : State) : Type 0 where
  pub may : MayJoin before channel
  pub text : wire ≡ request_text (record { seq = before.last + 1; body = Join channel })
  pub state : after ≡ record before { last = before.last + 1; joining = Some (record { number = before.last + 1; channel = channel }); keeper = None }

-- the client leaves its channel, without a reason
pub record Leaves (before : State) (wire : List ℕ) (after : State) : Type 0 where
  pub may : IsOpen before
  pub channel : List ℕ
  pub is : before.channel ≡ Some channel
  pub text : wire ≡ request_text (record { seq = before.last + 1; body = Leave channel [] })
  pub state : after ≡ record before { last = before.last + 1; leaves = before.leaves ++ (before.last + 1) ∷ [] }

-- a question about its channel to the keeper, under the next number
pub record Questions (before : State) (from : Since) (wire : List ℕ) : Type 0 where
  pub may : MayAsk before
  pub channel : List ℕ
  pub is : before.channel ≡ Some channel
  pub keeper : List ℕ
  pub is_keeper : before.keeper ≡ Some keeper
  pub text : wire ≡ request_text (record { seq = before.last + 1; body = Msg keeper (ask_text (ask.History channel from)) })

-- a default history is asked
abbrev pub is_default : Since → Bool
is_default since.Default = true
is_default (since.Known key) = false
is_default since.All = false

-- the client asks for a history
pub record Asks (before : State) (from : Since) (wire : List ℕ) (after : State) : Type 0 where
  pub question : Questions before from wire
  pub state : after ≡ record before { last = before.last + 1; asked = History (before.last + 1) (is_default from) }

-- a repair has asked for the full history, by a question that was made before
abbrev pub with_repair : State → State
with_repair state = record state { last = state.last + 1; asked = Repair (state.last + 1) }

-- the client sends an own message to its channel under the next number
pub record Sends (before : State) (message : Message) (wire : List ℕ) (after : State) : Type 0 where
  pub channel : List ℕ
  pub is : before.channel ≡ Some channel
  pub text : wire ≡ message_request channel (before.last + 1) message
  pub state : after ≡ record before { last = before.last + 1; outbox = before.outbox ++ record { message = message; number = Some (before.last + 1) } ∷ [] }

-- the client sends each message of its outbox again, in order, under new numbers
pub record Resends (before : State) (wires : List (List ℕ)) (after : State) : Type 0 where
  pub may : IsOpen before
  pub channel : List ℕ
  pub is : before.channel ≡ Some channel
  pub texts : wires ≡ texts_again channel before.last before.outbox
  pub state : after ≡ record before { last = before.last + length before.outbox; outbox = sent_again before.last before.outbox }

-- the connection is gone: a running repair is given up, and no answer is awaited any more
abbrev pub without_connection : State → State
without_connection state = record state {
  joined = false;
  joining = None;
  identity = None;
  keeper = None;
  asked = Nothing;
  leaves = [];
  outbox = all_forgotten state.outbox;
}
