-- The bytes that wait to go out over one connection.
use Rattle.std.specs.Prelude.{ℕ, ◌+◌, nat_lt, Bool, ◌||◌, ◌&&◌, List, [], ◌∷◌, ◌++◌, length, if◌then◌else◌}
use Rattle.ws_outbox.specs.declared.limits.TheConstants.{UNSENT_BYTES}

-- The bytes that go out next in one piece, those behind them, the last turn in which it was looked at, and whether it takes no more.
pub record Outgoing : Type 0 where
  pub front : List ℕ
  pub behind : List ℕ
  pub turn : ℕ
  pub refuses : Bool

-- these lists of bytes, one behind the other
abbrev pub bytes_in : List (List ℕ) → List ℕ
bytes_in [] = []
bytes_in (frame ∷ frames) = frame ++ bytes_in frames

-- the bytes that wait, in order
abbrev pub to_send : Outgoing → List ℕ
to_send outgoing = outgoing.front ++ outgoing.behind

-- how many bytes wait
abbrev pub unsent : Outgoing → ℕ
unsent outgoing = length outgoing.front + length outgoing.behind

-- at the first look in a turn, it takes no more if too many bytes wait
abbrev pub judged : (turn : ℕ) → Outgoing → Outgoing
judged turn outgoing = record {
  front = outgoing.front;
  behind = outgoing.behind;
  turn = if nat_lt outgoing.turn turn then turn else outgoing.turn;
  refuses = outgoing.refuses || (nat_lt outgoing.turn turn && nat_lt UNSENT_BYTES (unsent outgoing));
}
