-- What contracts see of a port over TCP.
use Rattle.std.specs.Prelude.{ℕ, ◌<◌, ◌≤◌, Bool, Option, None, Some, is_some}
use Rattle.ws_edge.specs.Server.{ServerCounts}
use Rattle.pad_edge.specs.declared.port_event.PortEvent.{PortEvent}
use Rattle.pad_edge.specs.declared.port_event.PortEvent.TheVariants as event

-- How many calls of `listen` and `next` failed, how many sends failed, whether it listens, and from which number on no connection was
-- opened yet.
pub record PortCounts : Type 0 where
  pub faults : ℕ
  pub drops : ℕ
  pub listens : Bool
  pub next_number : ℕ

-- the number from which on a server opened no connection, and 0 if there is none yet
abbrev pub number_of : Option ServerCounts → ℕ
number_of None = 0
number_of (Some server) = server.next_number

-- a connection is opened under a number that no other one had, numbers rise, and the port does not end
abbrev pub OpensFresh : PortEvent → (before now : ℕ) → Type 0
OpensFresh (event.Opened connection) before now = (before ≤ connection) × (connection < now)
OpensFresh (event.Text connection text) before now = before ≤ now
OpensFresh (event.Closed connection) before now = before ≤ now
OpensFresh event.Idle before now = before ≤ now
OpensFresh event.Ended before now = ⊥
