-- What is chosen as messages come: the kept root, the best path through it, and how many messages overtook that path.
-- The list of the messages received has the newest first here: `message ∷ received` is `received` and then one message.
use Rattle.std.specs.Prelude.{◌≡◌, ℕ, ◌+◌, List, [], ◌∷◌, ◌++◌, length, drop, nat_lt, if◌then◌else◌}
use Rattle.pad_message.specs.declared.message.Message.{Message}
use Rattle.pad_message.specs.Kind.{is_checkpoint}
use Rattle.pad_model.specs.declared.base.Base.{Base}
use Rattle.pad_model.specs.Path.{IsLinkedPath, IsPath, IsLinked}
use Rattle.pad_model.specs.Best.{IsBetter}
use Rattle.pad_list.specs.Number.{IsNumberOf}

-- the path up to its last checkpoint, this one included; the base alone if it has none
abbrev pub to_checkpoint : List Message → List Message
to_checkpoint [] = []
to_checkpoint (message ∷ path) = if is_checkpoint message.kind then message ∷ path else to_checkpoint path

-- the cut: the path up to its last but one checkpoint; the base alone if it has fewer than two
abbrev pub cut : List Message → List Message
cut path = to_checkpoint (drop 1 (to_checkpoint path))

-- the longer of two paths; the first if they are equally long
abbrev pub higher : List Message → List Message → List Message
higher path other = if nat_lt (length path) (length other) then other else path

-- the path goes on from the root. Every path goes on from the base.
abbrev pub RunsThrough : List Message → List Message → Type 0
RunsThrough root path = (above : List Message) × (path ≡ above ++ root)

-- it is a path through the root, and no such path is better
pub record IsBestThrough (base : Base) (received root best : List Message) : Type 0 where
  pub path : IsPath base received best
  pub through : RunsThrough root best
  pub none_better : (other : List Message) → IsPath base received other → RunsThrough root other → ¬ (IsBetter base other best)

-- a linked path that does not run through the root: its last message is below
abbrev pub IsBelow : Base → List Message → List Message → List Message → Type 0
IsBelow base received root path = IsLinkedPath base received path × ¬ (RunsThrough root path)

-- what is chosen: the path up to the kept root, the chosen path, and how many messages overtook chosen paths so far
pub record Choice : Type 0 where
  pub root : List Message
  pub chosen : List Message
  pub overtaken : ℕ

-- as the message comes, another one (or itself) becomes linked below the root, and betters the chosen path by its linked
-- height and its name
pub record Overtakes (base : Base) (received : List Message) (message : Message) (choice : Choice) (other : Message) : Type 0 where
  pub was_not_linked : ¬ (IsLinked base received other)
  pub before : List Message
  pub below : IsBelow base (message ∷ received) choice.root (other ∷ before)
  pub better : IsBetter base (other ∷ before) choice.chosen

-- The next choice after one message more: its path is the best through the root as it was, then the root moves up to the
-- cut of that path if that is higher, and the messages that overtook the path chosen before are added.
pub record IsNextChoice (base : Base) (received : List Message) (message : Message) (choice next : Choice) : Type 0 where
  pub chosen : IsBestThrough base (message ∷ received) choice.root next.chosen
  pub root : next.root ≡ higher choice.root (cut next.chosen)
  pub more : ℕ
  pub overtook : IsNumberOf (Overtakes base received message choice) more
  pub overtaken : next.overtaken ≡ choice.overtaken + more

-- the choice before any message was received
abbrev pub first_choice : Choice
first_choice = record { root = []; chosen = []; overtaken = 0 }

-- the choice after the messages received, one after another
abbrev pub IsChoice : Base → List Message → Choice → Type 0
IsChoice base [] choice = choice ≡ first_choice
IsChoice base (message ∷ received) choice = (before : Choice) × IsChoice base received before × IsNextChoice base received message before choice
