-- The machine that a speaker is an implementation of.
use Rattle.std.specs.Prelude.{ℕ, Bool, List}

-- `S` are its states, and `C` its commands
pub record Machine (S C : Type 0) : Type 1 where
  -- a command does this: from a state, to texts that are sent, lines that are written, and the next state
  pub does : S → C → (texts : List (List ℕ)) → (lines : List ℕ) → S → Type 0
  -- a text that is heard does this: from a state, to lines that are written, and the next state
  pub hears : S → (text : List ℕ) → (lines : List ℕ) → S → Type 0
  -- a state waits for a text before the next command
  pub waits : S → Bool
  -- a command, or a text, would give a state more than it may hold
  pub overfills : S → C → Type 0
  pub overflows : S → (text : List ℕ) → Type 0
  -- the premise under which a speaker does what the machine does, for a command and for a text: say, that no names clash
  pub may_do : S → C → Type 0
  pub may_hear : S → (text : List ℕ) → Type 0
