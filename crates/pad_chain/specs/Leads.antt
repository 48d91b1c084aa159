-- What moves do to a text, one after another. It needs no base and no list of messages.
use Rattle.std.specs.Prelude.{◌≡◌, ℕ, ◌≤◌, List, [], ◌∷◌, length, true}
use Rattle.pad_text.specs.Hash.{document_hash}
use Rattle.pad_patch.specs.Piece.{text_after}
use Rattle.pad_patch.specs.Misfit.{CanApply, longest_text}
use Rattle.pad_message.specs.Kind.{is_checkpoint}
use Rattle.pad_branch.specs.declared.moved.Move.{Move}

-- the move's patch was made for the text and can be applied to it; the text after it is short enough, and a checkpoint leaves
-- the text
pub record MoveFits (move : Move) (units : List ℕ) : Type 0 where
  pub applies : CanApply move.patch units
  pub made : move.patch.before ≡ document_hash units
  pub short : length (text_after move.patch units) ≤ longest_text
  pub whole : is_checkpoint move.kind ≡ true → text_after move.patch units ≡ units

-- each move fits the text in its turn, and they lead from one text to another
abbrev pub Leads : List Move → List ℕ → List ℕ → Type 0
Leads [] from to = from ≡ to
Leads (move ∷ moves) from to = MoveFits move from × Leads moves (text_after move.patch from) to
