-- A checkpoint is adopted as the base.
use Rattle.std.specs.Prelude.{◌≡◌, ◌∷◌, false}
use Rattle.pad_text.specs.declared.name.Name.{Name}
use Rattle.pad_text.specs.Hash.{document_hash}
use Rattle.pad_message.specs.declared.message.Message.{Message}
use Rattle.pad_model.specs.declared.base.Base.{Base}
use Rattle.pad_model.specs.Base.{first_base, Gives}
use Rattle.pad_model.specs.Count.{IsKnown}
use Rattle.pad_stroke.specs.Work.{moved_to}
use Rattle.client_copy.specs.Pad.{Pad, begun}
use Rattle.client_copy.specs.State.{Copy}

-- the message becomes the base, and the work keeps its insertions
pub record Adopts (before : Copy) (message : Message) (after : Copy) : Type 0 where
  pub base : Base
  pub gives : Gives message base
  pub state : after ≡ record before { pad = begun (message ∷ before.pad.all) base; work = moved_to before.work (document_hash base.text) }

-- a checkpoint may be adopted: no message is known, the base is the first one, and no repair has ended
pub record MayAdopt (pad : Pad) : Type 0 where
  pub none_known : (name : Name) → ¬ (IsKnown pad.base pad.received name)
  pub at_first_base : pad.base.name ≡ first_base.name
  pub not_repaired : pad.whole ≡ false
