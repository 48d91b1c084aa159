-- The addresses at which a port listens and that a link dials.
use Rattle.std.specs.Prelude.{ℕ, List}
use Rattle.std.specs.Net.Grammar.{IsSocketText}
use Rattle.std.specs.declared.net.socket_addr.SocketAddr.{SocketAddr}

-- the text is no `IP:port`
abbrev pub IsNoAddress : List ℕ → Type 0
IsNoAddress text = (address : SocketAddr) → IsSocketText text address → ⊥
