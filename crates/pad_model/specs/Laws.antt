-- Laws over the definitions alone. Each is the contract of a function of `src/laws.rt`.
use Rattle.std.specs.Prelude.{◌≡◌, ◌≢◌, ◌↔◌, ℕ, ◌+◌, ◌≤◌, List, [], ◌∷◌, ◌++◌, length, Contains, true}
use Rattle.pad_message.specs.declared.message.Message.{Message}
use Rattle.pad_message.specs.Kind.{is_checkpoint}
use Rattle.pad_message.specs.Message.{name_of}
use Rattle.pad_message.specs.Adopt.{CanAdopt}
use Rattle.pad_model.specs.declared.base.Base.{Base}
use Rattle.pad_model.specs.Base.{Gives}
use Rattle.pad_model.specs.Path.{text, IsLinkedPath, IsPath, IsLinkedAt, NamesDiffer}
use Rattle.pad_model.specs.Best.{IsBetter, IsBest}
use Rattle.pad_list.specs.Number.{IsNumberOf}
use Rattle.pad_model.specs.Choice.{RunsThrough, IsBestThrough, Choice, Overtakes, IsNextChoice, IsChoice}
use Rattle.pad_model.specs.Report.{IsReport}

-- two lists of messages have the same members
abbrev pub SameMembers : List Message → List Message → Type 0
SameMembers received other = (message : Message) → Contains received message ↔ Contains other message

-- ---- the best chain

-- under no clash of names at most one path is the best
abbrev pub AtMostOneBest : Type 0
AtMostOneBest =
    (base : Base) (received path other : List Message) → NamesDiffer received → IsBest base received path → IsBest base received other → path ≡ other

-- under no clash of names there is a best path
abbrev pub OneBestExists : Type 0
OneBestExists = (base : Base) (received : List Message) → NamesDiffer received → (best : List Message) × IsBest base received best

-- lists with the same members have the same best paths: order and repeats play no part
abbrev pub OrderIsNoPart : Type 0
OrderIsNoPart =
    (base : Base) (received other best : List Message) → SameMembers received other → IsBest base received best → IsBest base other best

-- under no clash of names a message has at most one linked height
abbrev pub OneLinkedHeight : Type 0
OneLinkedHeight =
    (base : Base) (received : List Message) (message : Message) (height other : ℕ) → NamesDiffer received → IsLinkedAt base received message height → IsLinkedAt base received message other → height ≡ other

-- ---- what is chosen

-- the kept root lies on the chosen path
abbrev pub RootOnChosen : Type 0
RootOnChosen = (base : Base) (received : List Message) (choice : Choice) → IsChoice base received choice → RunsThrough choice.root choice.chosen

-- the chosen path is the best through the kept root as it is now
abbrev pub BestThroughItsRoot : Type 0
BestThroughItsRoot =
    (base : Base) (received : List Message) (choice : Choice) → IsChoice base received choice → IsBestThrough base received choice.root choice.chosen

-- while the kept root is the base, the chosen path is the best chain
abbrev pub BestAtBase : Type 0
BestAtBase =
    (base : Base) (received : List Message) (choice : Choice) → IsChoice base received choice → choice.root ≡ [] → IsBest base received choice.chosen

-- the kept root only rises: the next one lies at or above it
abbrev pub RootRises : Type 0
RootRises =
    (base : Base) (received : List Message) (message : Message) (choice next : Choice) → IsNextChoice base received message choice next → RunsThrough choice.root next.root

-- the chosen path never gets worse
abbrev pub NeverWorse : Type 0
NeverWorse =
    (base : Base) (received : List Message) (message : Message) (choice next : Choice) → IsChoice base received choice → IsNextChoice base received message choice next → ¬ (IsBetter base choice.chosen next.chosen)

-- under no clash of names, if the chosen path was the best chain and nothing overtook so far, it is the best chain again
abbrev pub StaysBest : Type 0
StaysBest =
    (base : Base) (received : List Message) (message : Message) (choice next : Choice) → NamesDiffer (message ∷ received) → IsChoice base received choice → IsNextChoice base received message choice next → IsBest base received choice.chosen → next.overtaken ≡ 0 → IsBest base (message ∷ received) next.chosen

-- under no clash of names, if nothing overtook, the chosen path is the best chain of all messages received
abbrev pub NothingOvertook : Type 0
NothingOvertook =
    (base : Base) (received : List Message) (choice : Choice) → NamesDiffer received → IsChoice base received choice → choice.overtaken ≡ 0 → IsBest base received choice.chosen

-- under no clash of names there is at most one choice
abbrev pub AtMostOneChoice : Type 0
AtMostOneChoice =
    (base : Base) (received : List Message) (choice other : Choice) → NamesDiffer received → IsChoice base received choice → IsChoice base received other → choice ≡ other

-- under no clash of names there is a choice
abbrev pub OneChoiceExists : Type 0
OneChoiceExists = (base : Base) (received : List Message) → NamesDiffer received → (choice : Choice) × IsChoice base received choice

-- at most as many messages overtook as were received
abbrev pub FewOvertake : Type 0
FewOvertake = (base : Base) (received : List Message) (choice : Choice) → IsChoice base received choice → choice.overtaken ≤ length received

-- a message received again changes no choice
abbrev pub RepeatChangesNoChoice : Type 0
RepeatChangesNoChoice =
    (base : Base) (received : List Message) (message : Message) (choice : Choice) → IsChoice base received choice → Contains received message → IsNextChoice base received message choice choice

-- ---- what a chain has to try as a message comes

-- Let a path be the best through the root. As a message comes, a path through the root that it does not better is the best
-- through the root again, if no path with the new message on it is better.
abbrev pub OnlyNewPaths : Type 0
OnlyNewPaths =
    (base : Base) (received root path other : List Message) (message : Message) → IsBestThrough base received root path → IsPath base (message ∷ received) other → RunsThrough root other → ¬ (IsBetter base path other)
    → ((above below : List Message) → IsPath base (message ∷ received) (above ++ message ∷ below) → RunsThrough root (above ++ message ∷ below) → ¬ (IsBetter base (above ++ message ∷ below) other))
    → IsBestThrough base (message ∷ received) root other

-- a message that links nothing through the root changes the count of those that overtook alone
abbrev pub StaysChosen : Type 0
StaysChosen =
    (base : Base) (received : List Message) (message : Message) (choice : Choice) (more : ℕ) → IsChoice base received choice
    → ((path : List Message) → IsLinkedPath base (message ∷ received) path → RunsThrough choice.root path → IsLinkedPath base received path)
    → IsNumberOf (Overtakes base received message choice) more → IsNextChoice base received message choice (record choice { overtaken = choice.overtaken + more })

-- if a message links nothing, nothing overtakes
abbrev pub NothingLinks : Type 0
NothingLinks =
    (base : Base) (received : List Message) (message : Message) (choice : Choice) → ((path : List Message) → IsLinkedPath base (message ∷ received) path → IsLinkedPath base received path)
    → IsNumberOf (Overtakes base received message choice) 0

-- ---- adoption

-- each checkpoint of a path can be adopted
abbrev pub CheckpointsCanBeAdopted : Type 0
CheckpointsCanBeAdopted =
    (base : Base) (received above below : List Message) (checkpoint : Message) → IsPath base received (above ++ checkpoint ∷ below) → is_checkpoint checkpoint.kind ≡ true → CanAdopt checkpoint

-- Adoption changes nothing. Let the best chain run through a message that can be adopted, and let there be other messages:
-- some of those received, none of them with the base's name, and among them all those above that message. Then these are
-- the best chain of the others from the base that the message gives, and both have one committed text.
abbrev pub AdoptionChangesNothing : Type 0
AdoptionChangesNothing =
    (base adopted : Base) (received other above below : List Message) (checkpoint : Message) → NamesDiffer received
    → IsBest base received (above ++ checkpoint ∷ below) → Gives checkpoint adopted
    → ((message : Message) → Contains other message → Contains received message × (name_of message ≢ base.name))
    → ((message : Message) → Contains above message → Contains other message)
    → IsBest adopted other above × (text adopted above ≡ text base (above ++ checkpoint ∷ below))

-- ---- reports

-- under no clash of names there is at most one report
abbrev pub AtMostOneReport : Type 0
AtMostOneReport =
    (base : Base) (received : List Message) (unreadable : ℕ) (bytes other : List ℕ) → NamesDiffer received → IsReport base received unreadable bytes → IsReport base received unreadable other → bytes ≡ other

-- under no clash of names there is a report
abbrev pub OneReportExists : Type 0
OneReportExists = (base : Base) (received : List Message) (unreadable : ℕ) → NamesDiffer received → (bytes : List ℕ) × IsReport base received unreadable bytes

-- under no clash of names a message received again changes nothing of a report
abbrev pub RepeatChangesNoReport : Type 0
RepeatChangesNoReport =
    (base : Base) (before after : List Message) (message : Message) (unreadable : ℕ) (bytes : List ℕ) → NamesDiffer (before ++ after) → Contains before message
    → IsReport base (before ++ after) unreadable bytes ↔ IsReport base (before ++ message ∷ after) unreadable bytes

-- Under no clash of names, if nothing overtook, reports of lists with the same members have the same chosen path (so
-- the same best, height, hash, units and text), and as many known names and waiting messages.
abbrev pub OrderChangesNoBest : Type 0
OrderChangesNoBest =
    (base : Base) (received other : List Message) (unreadable lines : ℕ) (bytes texts : List ℕ) → NamesDiffer received → SameMembers received other
    → (one : IsReport base received unreadable bytes) (two : IsReport base other lines texts) → one.choice.overtaken ≡ 0 → two.choice.overtaken ≡ 0
    → (one.choice.chosen ≡ two.choice.chosen) × (one.known ≡ two.known) × (one.waiting ≡ two.waiting)
