-- Paths through the kept root.
use Rattle.std.specs.Prelude.{◌≡◌, ℕ, List, ◌∷◌, Option, Some, MatchOption, slice_get}
use Rattle.pad_message.specs.declared.message.Message.{Message}
use Rattle.pad_model.specs.declared.base.Base.{Base}
use Rattle.pad_model.specs.Path.{IsLinkedPath, EachSound, IsPath}
use Rattle.pad_model.specs.Choice.{RunsThrough, IsBestThrough}
use Rattle.pad_plain.specs.declared.candidate.Candidate.{Candidate}
use Rattle.pad_plain.specs.declared.path.Path.{Path}
use Rattle.pad_plain.specs.declared.path.Tip.{Tip}
use Rattle.pad_plain.specs.Tip.{IsTipOf}
use Rattle.pad_plain.specs.Inside.Walk.{messages_at, LeadsTo}

-- the path to the kept root is linked, and has this end
pub record IsRoot (base : Base) (received : List Message) (root : Tip) (path : List Message) : Type 0 where
  pub linked : IsLinkedPath base received path
  pub tip : IsTipOf base path root

-- a linked path to the message at the place runs through the root if something was found, and else does not
abbrev pub IsThroughTo : {A : Type 0} → Base → List Message → List Message → ℕ → Option A → Type 0
IsThroughTo base received root place found =
    (message : Message) (before : List Message) → slice_get received place ≡ Some message → IsLinkedPath base received (message ∷ before)
    → MatchOption found (¬ (RunsThrough root (message ∷ before))) (λ _. RunsThrough root (message ∷ before))

-- the path ends in the candidate's last message, and is sound
pub record IsSoundTo (base : Base) (received : List Message) (candidate : Candidate) (path : Path) : Type 0 where
  pub to : LeadsTo base received candidate.place (messages_at received path.places.items)
  pub sound : EachSound base (messages_at received path.places.items)
  pub tip : IsTipOf base (messages_at received path.places.items) path.tip

-- no path through the root ends in the message at the place
abbrev pub NoPathThrough : Base → List Message → List Message → ℕ → Type 0
NoPathThrough base received root place =
    (message : Message) (before : List Message) → slice_get received place ≡ Some message → IsPath base received (message ∷ before) → ¬ (RunsThrough root (message ∷ before))

-- no path through the root ends in a message
abbrev pub OnlyTheBase : Base → List Message → List Message → Type 0
OnlyTheBase base received root = (message : Message) (before : List Message) → IsPath base received (message ∷ before) → ¬ (RunsThrough root (message ∷ before))

-- it is a path through the root
pub record IsPathThrough (base : Base) (received root : List Message) (path : Path) : Type 0 where
  pub is_path : IsPath base received (messages_at received path.places.items)
  pub through : RunsThrough root (messages_at received path.places.items)
  pub tip : IsTipOf base (messages_at received path.places.items) path.tip

-- it is the best path through the root
pub record IsBestFound (base : Base) (received root : List Message) (path : Path) : Type 0 where
  pub best : IsBestThrough base received root (messages_at received path.places.items)
  pub tip : IsTipOf base (messages_at received path.places.items) path.tip
