-- What is true of each working copy in memory, whatever its chain stands for.
use Rattle.std.specs.Prelude.{◌≡◌, ℕ, List}
use Rattle.pad_text.specs.Hash.{document_hash}
use Rattle.pad_stroke.specs.declared.mark.Mark.{Mark}
use Rattle.pad_stroke.specs.Work.{Marked}
use Rattle.client_work.specs.Switch.{SentWorks}
use Rattle.client_work.specs.Carrying.{IsOnGround, AreCarried}

-- the work and those that were sent are carried on this text, for which the work was made
pub record IsHeldOn (text : List ℕ) (work : Marked) (sent : SentWorks) (strokes : ℕ) : Type 0 where
  pub typed : Mark → ℕ
  pub work_is : IsOnGround (record { text = text; typed = typed; strokes = strokes }) work
  pub sent_are : AreCarried (record { text = text; typed = typed; strokes = strokes }) sent
  pub made : work.patch.before ≡ document_hash text
