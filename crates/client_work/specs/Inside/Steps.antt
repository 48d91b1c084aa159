-- One move after another.
use Rattle.std.specs.Prelude.{◌≡◌, ℕ, Option, List, [], ◌∷◌, length}
use Rattle.pad_text.specs.declared.name.Name.{Name}
use Rattle.pad_text.specs.Hash.{document_hash}
use Rattle.pad_patch.specs.Piece.{text_after}
use Rattle.pad_merge.specs.Merge.{CanMergeBack}
use Rattle.pad_stroke.specs.Work.{Marked}
use Rattle.pad_branch.specs.declared.moved.Move.{Move}
use Rattle.pad_chain.specs.Leads.{MoveFits}
use Rattle.client_work.specs.Carrying.{Ground, IsOwnWork, IsOnGround, IsCarried}

-- the move fits the ground's text and leads to one with this hash, and the work is on that ground
pub record IsReady (grounds : Ground) (move : Move) (hash : Name) (work : Marked) : Type 0 where
  pub fits : MoveFits move grounds.text
  pub after : hash ≡ document_hash (text_after move.patch grounds.text)
  pub on_ground : IsOnGround grounds work

-- the move takes a message back, and the work that was sent can be merged back in front of the present one, to a text of `size`
-- units
pub record MergesBack (grounds : Ground) (own : Marked) (move : Move) (size : ℕ) (work : Marked) : Type 0 where
  pub fits : MoveFits move grounds.text
  pub long : size ≡ length (text_after move.patch grounds.text)
  pub on_ground : IsOnGround grounds work
  pub is_own : IsOwnWork grounds own
  pub merges : CanMergeBack own.patch move.patch work.patch size

-- so is what was sent as the message of the move, if it was
pub record IsReadyFor (grounds : Ground) (own : Option Marked) (move : Move) (hash : Name) (work : Marked) : Type 0 where
  pub ready : IsReady grounds move hash work
  pub carried : IsCarried grounds own

-- the hash for which the first move was made; if there is none `end`
abbrev pub first_hash : List Move → Name → Name
first_hash [] end = end
first_hash (move ∷ moves) end = move.patch.before
