-- How receiving goes on, content by content.
use Rattle.std.specs.Prelude.{◌≡◌, ℕ, ◌+◌, ◌<◌, ◌⊎◌, List, [], ◌∷◌, ◌++◌, length, reverse, false, Option, None, Some}
use Rattle.std.specs.Str.{IsUtf8}
use Rattle.pad_text.specs.Plain.{plain}
use Rattle.pad_message.specs.declared.message.Message.{Message}
use Rattle.pad_message.specs.Content.{longest_content, without_mark}
use Rattle.pad_model.specs.Base.{first_base}
use Rattle.pad_model.specs.Path.{NamesDiffer}
use Rattle.pad_model.specs.Choice.{Choice}
use Rattle.pad_chain.specs.Tie.{StandsFor}
use Rattle.pad_chain.specs.Knows.{Knows}
use Rattle.pad_received.specs.declared.received.Received.{Received}

-- what was received so far: the messages, in order, and the number of the other lines
pub record Progress : Type 0 where
  pub messages : List Message
  pub unreadable : ℕ

-- The chain is that of these messages, from the first base on: it knows their names, and stands for them if no two different ones
-- have one name. This is the number of the other lines.
pub record IsAt (received : Received) (progress : Progress) : Type 0 where
  pub truncates : received.chain.whole ≡ false
  pub knows : Knows received.chain first_base (reverse progress.messages)
  pub stands : NamesDiffer progress.messages → (choice : Choice) × StandsFor received.chain first_base (reverse progress.messages) choice
  pub others : received.unreadable ≡ progress.unreadable

-- what was received after one more line, by what that reads as
abbrev pub progress_after : Option Message → Progress → Progress
progress_after None before = record { messages = before.messages; unreadable = before.unreadable + 1 }
progress_after (Some message) before = record { messages = before.messages ++ message ∷ []; unreadable = before.unreadable }

-- a line that is found to be no message without memory: it is no UTF-8, too long, or not plain
abbrev pub IsRefusedAtOnce : List ℕ → Type 0
IsRefusedAtOnce line = ¬ (IsUtf8 line) ⊎ ((longest_content < length line) ⊎ (plain (without_mark line) ≡ false))
