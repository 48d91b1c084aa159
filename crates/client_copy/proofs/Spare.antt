-- A work without operations takes the place of another on another text.
use Rattle.std.proofs.Common.{◌≡◌, ℕ, ◌≤◌, List, length, sym, ap, subst}
use Rattle.pad_text.specs.Text.{IsText}
use Rattle.pad_text.specs.Hash.{document_hash}
use Rattle.pad_patch.specs.Misfit.{longest_text}
use Rattle.pad_stroke.specs.Work.{Marked, empty}
use Rattle.client_work.specs.Switch.{SentWorks}
use Rattle.client_work.specs.Carrying.{IsOnGround}
use Rattle.client_copy.specs.Held.{IsHeldOn}
use Rattle.client_copy.proofs.Behind.{ground_on, empty_on, sent_to}

pub spare_held : (text to : List ℕ) (work spare : Marked) (sent : SentWorks) (strokes : ℕ) → IsHeldOn text work sent strokes → IsText to → length to ≤ longest_text → spare ≡ empty (document_hash to)
    → IsHeldOn to spare sent strokes
spare_held text to work spare sent strokes held is short empty_is = record {
  typed = held.typed;
  work_is = subst (λ (w : Marked). IsOnGround (ground_on to held.typed strokes) w) (sym empty_is) (empty_on to held.typed strokes (document_hash to) is short);
  sent_are = sent_to text to held.typed strokes sent held.sent_are;
  made = ap (λ (w : Marked). w.patch.before) empty_is;
}
