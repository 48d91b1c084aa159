-- Kinds of messages, and the intervals of checkpoints.
use Rattle.std.specs.Prelude.{⊤, ℕ, ◌≤◌, Bool, true, false}
use Rattle.pad_message.specs.declared.kind.Kind.{Kind}
use Rattle.pad_message.specs.declared.kind.Kind.TheVariants as kind
use Rattle.pad_message.specs.declared.kind.TheConstants.{SHORTEST_INTERVAL, LONGEST_INTERVAL}

-- whether this is the kind of a checkpoint
abbrev pub is_checkpoint : Kind → Bool
is_checkpoint kind.Patch = false
is_checkpoint (kind.Checkpoint interval) = true

-- a checkpoint may have this interval
abbrev pub IsInterval : ℕ → Type 0
IsInterval messages = (SHORTEST_INTERVAL ≤ messages) × (messages ≤ LONGEST_INTERVAL)

-- the interval of a checkpoint is one that it may have
abbrev pub HasInterval : Kind → Type 0
HasInterval kind.Patch = ⊤
HasInterval (kind.Checkpoint interval) = IsInterval interval
