-- What contracts see of a working copy: the state with a chain for the pad, and a table of the works that were sent.
use Rattle.std.specs.Prelude.{◌≡◌, ◌≢◌, ◌⊎◌, Bool, List, Some, Contains}
use Rattle.pad_text.specs.declared.name.Name.{Name}
use Rattle.pad_message.specs.declared.message.Message.{Message}
use Rattle.pad_message.specs.Message.{name_of}
use Rattle.pad_message.specs.declared.kind.Kind.TheVariants as kind
use Rattle.pad_model.specs.declared.base.Base.{Base}
use Rattle.pad_model.specs.Base.{first_base, Gives}
use Rattle.pad_model.specs.Path.{NamesDiffer}
use Rattle.pad_stroke.specs.Work.{Marked}
use Rattle.pad_chain.specs.State as chains
use Rattle.pad_chain.specs.Tie.{StandsFor}
use Rattle.client_work.specs.Switch.{SentWorks, sent_as}
use Rattle.client_copy.specs.Pad.{Pad}
use Rattle.client_copy.specs.State.{State, Copy}

-- a chain, the name of its base, and whether a repair has ended
pub record HeldPad : Type 0 where
  pub chain : chains.View
  pub base : Name
  pub repaired : Bool

abbrev pub View : Type 0
View = State HeldPad SentWorks

-- ---- the premise on names

-- two different messages have different names, and none has the first base's
pub record NoClash (messages : List Message) : Type 0 where
  pub differ : NamesDiffer messages
  pub not_base : (message : Message) → Contains messages message → name_of message ≢ first_base.name

-- the base is the first one, or a message gave it
abbrev pub IsBaseOf : List Message → Base → Type 0
IsBaseOf all base = (base ≡ first_base) ⊎ ((message : Message) × Contains all message × Gives message base)

-- ---- the tie

-- the chain stands for what was received and chosen
pub record StandsAsPad (held : HeldPad) (pad : Pad) : Type 0 where
  pub stands : StandsFor held.chain pad.base pad.received pad.choice
  pub base : held.base ≡ pad.base.name
  pub whole : held.chain.whole ≡ pad.whole
  pub repaired : held.repaired ≡ pad.whole
  pub of_all : IsBaseOf pad.all pad.base
  pub among_all : (message : Message) → Contains pad.received message → Contains pad.all message

-- each work that was sent is that of a patch message that was made
abbrev pub AreSentAs : List Message → SentWorks → Type 0
AreSentAs all sent =
    (name : Name) (own : Marked) → sent_as sent name ≡ Some own
    → (message : Message) × Contains all message × (name_of message ≡ name) × (message.kind ≡ kind.Patch) × (message.patch ≡ own.patch)

-- the working copy in memory stands for the machine's state: its chain does, and its table has the works that were sent
pub record StandsAs (held : View) (copy : Copy) : Type 0 where
  pub pad : StandsAsPad held.pad copy.pad
  pub sent : (name : Name) → sent_as held.sent name ≡ sent_as copy.sent name
  pub are_sent : AreSentAs copy.pad.all copy.sent
  pub work : held.work ≡ copy.work
  pub strokes : held.strokes ≡ copy.strokes

-- a working copy that refused stands for what it stood for
abbrev pub StandsStill : View → View → Type 0
StandsStill old new = (copy : Copy) → StandsAs old copy → StandsAs new copy
