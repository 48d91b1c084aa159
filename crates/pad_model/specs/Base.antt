-- Bases: what a chain begins at.
use Rattle.std.specs.Prelude.{◌≡◌, [], replicate}
use Rattle.pad_message.specs.declared.kind.Kind.TheVariants as kind
use Rattle.pad_message.specs.declared.kind.TheConstants.{USUAL_INTERVAL}
use Rattle.pad_message.specs.declared.message.Message.{Message}
use Rattle.pad_message.specs.Message.{name_of}
use Rattle.pad_message.specs.Adopt.{IsAdoptableWith}
use Rattle.pad_model.specs.declared.base.Base.{Base}

-- the base that no message gives: sixty-four zeros as its name, the empty text, and the usual interval
abbrev pub first_base : Base
first_base = record { name = record { 0 = replicate 32 0 }; text = []; interval = USUAL_INTERVAL }

-- the message can be adopted, and gives the base its name, its inserted text and its interval
pub record Gives (message : Message) (base : Base) : Type 0 where
  pub adoptable : IsAdoptableWith message base.text
  pub named : base.name ≡ name_of message
  pub timed : message.kind ≡ kind.Checkpoint base.interval
