-- With what a connection begins.
use Rattle.std.specs.Prelude.{⊤}
use Rattle.ws_connection.specs.Sending.{IsNew}
use Rattle.ws_connection.specs.declared.handshake.Shaken.{Shaken}
use Rattle.ws_connection.specs.declared.handshake.Shaken.TheVariants.{Done, More, Blocked, Failed}

-- a connection whose handshake is done is a new one
unfoldable pub BeginsNew : Shaken → Type 0
BeginsNew (Done connection) = IsNew connection
BeginsNew (More handshake) = ⊤
BeginsNew (Blocked handshake) = ⊤
BeginsNew Failed = ⊤
