-- What contracts see of a client that carries out a script.
use Rattle.std.specs.Prelude.{◌≡◌}
use Rattle.pad_client.specs.View.{View, StandsAs}
use Rattle.client_script.specs.declared.hearing.Hearing.{Hearing}
use Rattle.client_script.specs.State.{Scripted}

-- the client, and what its last line still has to hear, stand for this state
pub record StandsFor (held : View) (hears : Hearing) (state : Scripted) : Type 0 where
  pub client : StandsAs held state.client
  pub hearing : hears ≡ state.hearing
