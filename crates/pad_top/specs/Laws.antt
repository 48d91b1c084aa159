-- Laws of what an input is received as, over the definitions alone.
use Rattle.std.specs.Prelude.{◌≡◌, ◌↔◌, ℕ, ◌≤◌, List, ◌∷◌, ◌++◌, length, Contains}
use Rattle.pad_message.specs.declared.message.Message.{Message}
use Rattle.pad_model.specs.Laws.{SameMembers}
use Rattle.pad_model.specs.Path.{NamesDiffer}
use Rattle.pad_top.specs.Input.{most_bytes}
use Rattle.pad_lines.specs.Line.{lines_of}
use Rattle.pad_received.specs.Contents.{LineSpells, AreReadAs}
use Rattle.pad_top.specs.Replay.{IsReplayed, IsPastLimit}

-- lines are received as one list of messages, with one number of others
abbrev pub ReceivedOnce : Type 0
ReceivedOnce = (lines : List (List ℕ)) (messages other : List Message) (unreadable number : ℕ)
    → AreReadAs lines messages unreadable → AreReadAs lines other number → (messages ≡ other) × (unreadable ≡ number)

-- an input that has a report is past no limit
abbrev pub EndsOnce : Type 0
EndsOnce = (input output : List ℕ) → IsReplayed input output → ¬ (IsPastLimit input)

-- The first input has a line less than the second one: a line that reads as a message of a line before it. Both have the
-- same reports.
abbrev pub RepeatsChangeNothing : Type 0
RepeatsChangeNothing = (input other output : List ℕ) (before after : List (List ℕ)) (line : List ℕ) (messages : List Message) (unreadable : ℕ) (message : Message)
    → lines_of input ≡ before ++ after → lines_of other ≡ before ++ line ∷ after → length input ≤ most_bytes → length other ≤ most_bytes
    → AreReadAs before messages unreadable → Contains messages message → LineSpells line message
    → IsReplayed input output ↔ IsReplayed other output

-- The lines of two inputs read as the same messages, in any order and however often. Where no two different messages
-- have one name, and nothing overtook, both reports tell one best chain (so one best, height, hash, units and text), and
-- as many known names and waiting messages.
abbrev pub OrderChangesNoBest : Type 0
OrderChangesNoBest = (input other output text : List ℕ) (one : IsReplayed input output) (two : IsReplayed other text)
    → SameMembers one.messages two.messages → (differ : NamesDiffer one.messages) (differs : NamesDiffer two.messages)
    → (one.report differ).choice.overtaken ≡ 0 → (two.report differs).choice.overtaken ≡ 0
    → ((one.report differ).choice.chosen ≡ (two.report differs).choice.chosen) × ((one.report differ).known ≡ (two.report differs).known)
    × ((one.report differ).waiting ≡ (two.report differs).waiting)
