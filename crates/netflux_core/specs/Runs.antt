-- Runs of the serve machine over lists of events.
use Rattle.std.specs.Prelude.{ℕ, List, [], ◌∷◌, ◌++◌}
use Rattle.netflux_rooms.specs.Rooms.{Identities}
use Rattle.pad_text.specs.Digits.{IsDigits}
use Rattle.serve_loop.specs.declared.event.Event.{Event}
use Rattle.serve_loop.specs.declared.out.Out.{Out}
use Rattle.netflux_core.specs.Crashes.{ChannelLogs}
use Rattle.netflux_core.specs.Machine.{ServeState, Step}

-- one step after another, each with its outputs, from a first state
pub data Runs (logs : ChannelLogs) (identities : Identities) (first : ServeState) : List (ℕ × Event) → List (List Out) → ServeState → Type 0 where
  begins : Runs logs identities first [] [] first
  goes_on : (events : List (ℕ × Event)) (outputs : List (List Out)) {state next : ServeState} (moment : ℕ) (event : Event) (outs : List Out)
      → Runs logs identities first events outputs state
      → Step logs identities state moment event outs next
      → Runs logs identities first (events ++ (moment, event) ∷ []) (outputs ++ outs ∷ []) next

-- a file of some channel
abbrev pub IsOwned : (owns : (channel file : List ℕ) → Type 0) → (file : List ℕ) → Type 0
IsOwned owns file = (channel : List ℕ) × IsDigits 32 channel × owns channel file
