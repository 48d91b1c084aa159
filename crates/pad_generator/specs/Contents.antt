-- The contents that a generator gives out.
use Rattle.std.specs.Prelude.{ℕ, suc, zero, List, [], ◌∷◌, ◌++◌, map, if◌then◌else◌}
use Rattle.pad_message.specs.declared.message.Message.{Message}
use Rattle.pad_message.specs.Content.{mark}
use Rattle.pad_message.specs.Kind.{is_checkpoint}
use Rattle.pad_message.specs.Message.{compact}
use Rattle.pad_generator.specs.Item.{made, next_message}
use Rattle.pad_generator.specs.Blocks.{blocks_reversed}

-- the content of a message: its compact text, with the mark in front of a checkpoint's
abbrev pub content_of : Message → List ℕ
content_of message = if is_checkpoint message.kind then mark ++ compact message else compact message

-- the messages of the items from 1 to `count`, in order
abbrev pub messages : (number count : ℕ) → List Message
messages number zero = []
messages number (suc count) = messages number count ++ next_message number (made number count) ∷ []

-- what is given out: their contents, each block in reverse order
abbrev pub contents : (number count : ℕ) → List (List ℕ)
contents number count = blocks_reversed (map content_of (messages number count))
