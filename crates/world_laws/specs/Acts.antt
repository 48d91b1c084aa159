-- What a client with its connection does, act by act, and the texts that it heard.
use Rattle.std.specs.Prelude.{◌≡◌, ℕ, true, List, [], ◌∷◌, ◌++◌}
use Rattle.pad_patch.specs.declared.operation.Operation.{Operation}
use Rattle.netflux_codec.specs.declared.since.Since.{Since}
use Rattle.pad_client.specs.declared.heard.Heard.{Heard}
use Rattle.pad_client.specs.Calls.{with_interval}
use Rattle.pad_seat.specs.State.{SeatState, new_seat, without_seat}
use Rattle.pad_seat.specs.Calls.{DoesJoin, DoesLeave, DoesHistory, DoesResend, DoesRepair, DoesSync, DoesEdit, HearsText}

-- one act: a call that is done or refused, a text that is heard, a connection that comes or is lost, or texts that move
pub data Acts (before : SeatState) : (heard : List (List ℕ)) → (after : SeatState) → Type 0 where
  joins : (line : ℕ) (channel printed : List ℕ) (after : SeatState) → DoesJoin line channel before printed after → Acts before [] after
  leaves_channel : (line : ℕ) (printed : List ℕ) (after : SeatState) → DoesLeave line before printed after → Acts before [] after
  asks : (line : ℕ) (from : Since) (printed : List ℕ) (after : SeatState) → DoesHistory line from before printed after → Acts before [] after
  resends : (line : ℕ) (printed : List ℕ) (after : SeatState) → DoesResend line before printed after → Acts before [] after
  repairs : (line : ℕ) (printed : List ℕ) (after : SeatState) → DoesRepair line before printed after → Acts before [] after
  syncs : (line : ℕ) (printed : List ℕ) (after : SeatState) → DoesSync line before printed after → Acts before [] after
  edits : (line : ℕ) (operation : Operation) (printed : List ℕ) (after : SeatState) → DoesEdit line operation before printed after → Acts before [] after
  sets_interval : (interval : ℕ) → Acts before [] (record before { client = with_interval interval before.client })
  -- the text comes from its queue, or from anywhere
  hears : (text : List ℕ) (answer : Heard) (after : SeatState) → HearsText before text answer after → Acts before (text ∷ []) after
  connects : Acts before [] (record before { connected = true })
  loses : Acts before [] (without_seat before)
  -- texts are put, taken, repeated or lost
  moves : (up down : List (List ℕ)) → Acts before [] (record before { up = up; down = down })

-- a text, and the state of the client that heard it
pub record HeardAt : Type 0 where
  pub seat : SeatState
  pub text : List ℕ

-- the texts of an act, each with the state in which it was heard
abbrev pub heard_at : SeatState → List (List ℕ) → List HeardAt
heard_at seat [] = []
heard_at seat (text ∷ texts) = record { seat = seat; text = text } ∷ heard_at seat texts

-- all that a client with its connection did since it was new, with what it heard
pub data SeatRuns : List HeardAt → SeatState → Type 0 where
  begins : SeatRuns [] new_seat
  goes_on : (heard : List HeardAt) (texts : List (List ℕ)) (before after : SeatState) → SeatRuns heard before → Acts before texts after → SeatRuns (heard_at before texts ++ heard) after
