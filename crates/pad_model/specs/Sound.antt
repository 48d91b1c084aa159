-- When a message is sound on a text.
use Rattle.std.specs.Prelude.{◌≡◌, ℕ, ◌%◌, List, true}
use Rattle.pad_patch.specs.Misfit.{Fits}
use Rattle.pad_message.specs.declared.kind.Kind.{Kind}
use Rattle.pad_message.specs.declared.kind.Kind.TheVariants as kind
use Rattle.pad_message.specs.declared.message.Message.{Message}
use Rattle.pad_message.specs.Kind.{is_checkpoint}
use Rattle.pad_message.specs.Adopt.{IsWhole}

-- the interval in force after a message of this kind: a checkpoint's own, and after a patch the one before
abbrev pub interval_of : Kind → ℕ → ℕ
interval_of kind.Patch before = before
interval_of (kind.Checkpoint interval) before = interval

-- The patch fits the text. A checkpoint comes at a multiple of the interval in force, counted from the last checkpoint
-- below it or from the base, and spells the whole text once more.
pub record IsSound (message : Message) (distance interval : ℕ) (text : List ℕ) : Type 0 where
  pub fits : Fits message.patch text
  pub checkpoint : is_checkpoint message.kind ≡ true → (distance % interval ≡ 0) × IsWhole message text
