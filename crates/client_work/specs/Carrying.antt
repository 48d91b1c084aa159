-- What is true of works while they are carried, whatever the best chain stands for.
use Rattle.std.specs.Prelude.{◌≡◌, ℕ, ◌≤◌, ◌++◌, Option, Some, None, List, [], ◌∷◌, length, All}
use Rattle.pad_text.specs.declared.name.Name.{Name}
use Rattle.pad_text.specs.Text.{IsText}
use Rattle.pad_text.specs.Hash.{document_hash}
use Rattle.pad_patch.specs.Piece.{text_after}
use Rattle.pad_patch.specs.Inverse.{inverse}
use Rattle.pad_patch.specs.Misfit.{CanApply, longest_text}
use Rattle.pad_stroke.specs.declared.mark.Mark.{Mark}
use Rattle.pad_stroke.specs.Work.{Marked}
use Rattle.pad_row.specs.Pairs.{IsPairedWork, AreTyped}
use Rattle.pad_branch.specs.declared.moved.Move.{Move}
use Rattle.pad_chain.specs.declared.moved.Moved.{Moved}
use Rattle.pad_chain.specs.Leads.{Leads}
use Rattle.client_work.specs.Switch.{SentWorks, sent_as}

-- the text that works are carried on, which unit was typed under each mark, and the last stroke
pub record Ground : Type 0 where
  pub text : List ℕ
  pub typed : Mark → ℕ
  pub strokes : ℕ

-- the ground after a move, and after all of them
abbrev pub behind : Move → Ground → Ground
behind move grounds = record grounds { text = text_after move.patch grounds.text }

abbrev pub behind_all : List Move → Ground → Ground
behind_all [] grounds = grounds
behind_all (move ∷ moves) grounds = behind_all moves (behind move grounds)

-- the units of the work were typed under its marks, the two of a pair under successive ones, in strokes up to the last
pub record IsOwnWork (grounds : Ground) (work : Marked) : Type 0 where
  pub paired : IsPairedWork work
  pub typed : AreTyped grounds.typed work
  pub strokes : All (λ (mark : Mark). mark.stroke ≤ grounds.strokes) work.marks

-- such a work can be applied to the text
pub record IsOnGround (grounds : Ground) (work : Marked) : Type 0 where
  pub is_text : IsText grounds.text
  pub short : length grounds.text ≤ longest_text
  pub applies : CanApply work.patch grounds.text
  pub own : IsOwnWork grounds work

abbrev pub IsCarried : Ground → Option Marked → Type 0
IsCarried grounds None = Unit {0}
IsCarried grounds (Some work) = IsOwnWork grounds work

-- so are all works that were sent
abbrev pub AreCarried : Ground → SentWorks → Type 0
AreCarried grounds sent = (name : Name) → IsCarried grounds (sent_as sent name)

-- the move takes back the message as which the work was sent: it is the inverse of the work's patch
pub record TakesBack (own : Marked) (move : Move) (text : List ℕ) : Type 0 where
  pub applies : CanApply own.patch (text_after move.patch text)
  pub was : text ≡ text_after own.patch (text_after move.patch text)
  pub inverse_of : move.patch ≡ inverse own.patch (text_after move.patch text)

abbrev pub IsInverse : Option Marked → Move → List ℕ → Type 0
IsInverse None move text = Unit {0}
IsInverse (Some own) move text = TakesBack own move text

-- each move takes back the message as which the work of its name was sent, if one was
abbrev pub AreInverses : SentWorks → List Move → List ℕ → Type 0
AreInverses sent [] text = Unit {0}
AreInverses sent (move ∷ moves) text = IsInverse (sent_as sent move.name) move text × AreInverses sent moves (text_after move.patch text)

-- the moves lead from the ground's text to one with the hash `end`, the work is on that ground, and so are those that were sent
pub record AreReady (grounds : Ground) (sent : SentWorks) (moves : List Move) (size : ℕ) (end : Name) (work : Marked) : Type 0 where
  pub leads : Leads moves grounds.text (behind_all moves grounds).text
  pub long : size ≡ length grounds.text
  pub last : end ≡ document_hash (behind_all moves grounds).text
  pub on_ground : IsOnGround grounds work
  pub carried : AreCarried grounds sent

-- all moves in order: what leaves, and then what comes
abbrev pub all_moves : Moved → List Move
all_moves moved = moved.reverted ++ moved.applied
