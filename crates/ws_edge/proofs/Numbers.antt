-- Numbers of connections.
use Rattle.std.proofs.Common.{◌≡◌, ℕ, ◌≤◌, Ok, false, refl, arith}
use Rattle.ws_edge.specs.WsPort.{OpensFresh}
use Rattle.pad_edge.specs.Port.{is_port_end}
use Rattle.pad_edge.specs.declared.port_event.PortEvent.{PortEvent}
use Rattle.pad_edge.specs.declared.port_event.PortEvent.TheVariants as event

-- what opens no number of later ones opens none of earlier ones
pub fresh_since : (one : PortEvent) (before between now : ℕ) → before ≤ between → OpensFresh one between now → OpensFresh one before now
fresh_since (event.Opened connection) before between now rose fresh = let low = fresh.0 in (omega (arith, rose, low), fresh.1)
fresh_since (event.Text connection text) before between now rose later = omega (arith, rose, later)
fresh_since (event.Closed connection) before between now rose later = omega (arith, rose, later)
fresh_since event.Idle before between now rose later = omega (arith, rose, later)
fresh_since event.Ended before between now rose none = none

-- what opens a number, or none, is no end
pub never_ends : (one : PortEvent) (before now : ℕ) → OpensFresh one before now → is_port_end (Ok one) ≡ false
never_ends (event.Opened connection) before now fresh = refl
never_ends (event.Text connection text) before now fresh = refl
never_ends (event.Closed connection) before now fresh = refl
never_ends event.Idle before now fresh = refl
never_ends event.Ended before now none = absurd none
