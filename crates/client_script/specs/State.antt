-- The state of a client that carries out a script.
use Rattle.std.specs.Prelude.{ℕ, Bool}
use Rattle.client_outbox.specs.Outbox.{some_awaits}
use Rattle.pad_client.specs.State.{ClientState, new_client}
use Rattle.client_script.specs.declared.hearing.Hearing.{Hearing}
use Rattle.client_script.specs.declared.hearing.Hearing.TheVariants as hearing
use Rattle.client_script.specs.Hearing.{is_waiting}

pub record Scripted : Type 0 where
  pub client : ClientState
  -- what the last line still has to hear
  pub hearing : Hearing

-- before the first line
abbrev pub new_scripted : Scripted
new_scripted = record { client = new_client; hearing = hearing.Nothing }

-- a text is to be heard before the next line
abbrev pub is_hearing : Scripted → Bool
is_hearing state = is_waiting state.hearing (some_awaits state.client.requests.outbox)
