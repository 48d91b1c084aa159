-- What contracts see of a client: the state with what they see of its working copy.
use Rattle.std.specs.Prelude.{◌≡◌, ℕ, ◌^◌, ◌-◌, min, true, Option, Some, None, List, ◌∷◌}
use Rattle.pad_message.specs.declared.message.Message.{Message}
use Rattle.pad_message.specs.Content.{Reads}
use Rattle.netflux_codec.specs.declared.reply.Reply.{Reply}
use Rattle.pad_model.specs.Base.{first_base}
use Rattle.pad_model.specs.Choice.{Choice}
use Rattle.pad_chain.specs.State as chains
use Rattle.pad_chain.specs.Tie.{StandsFor}
use Rattle.client_copy.specs.Repair.{AreAmong}
use Rattle.client_copy.specs.View as copies
use Rattle.client_copy.specs.View.{NoClash}
use Rattle.pad_client.specs.State.{State, ClientState}
use Rattle.pad_client.specs.Hear.{Addressed, IsBrought, IsBroughtBy, Brings}

abbrev pub View : Type 0
View = State copies.View chains.View

-- the chain of a repair stands for what was received, and never truncates; all of that is among the messages that ever came
pub record StandsAsRepair (chain : chains.View) (all received : List Message) : Type 0 where
  pub choice : Choice
  pub stands : StandsFor chain first_base received choice
  pub whole : chain.whole ≡ true
  pub among : AreAmong received all

-- there is a chain if a repair runs, and only then
abbrev pub StandsAsRepairs : List Message → Option chains.View → Option (List Message) → Type 0
StandsAsRepairs all None None = Unit {0}
StandsAsRepairs all None (Some received) = ⊥
StandsAsRepairs all (Some chain) None = ⊥
StandsAsRepairs all (Some chain) (Some received) = StandsAsRepair chain all received

-- the client in memory stands for the machine's state. Its count of contents that spelled no message stays at 2^64 - 1.
pub record StandsAs (held : View) (client : ClientState) : Type 0 where
  pub copy : copies.StandsAs held.copy client.copy
  pub unreadable : held.unreadable ≡ min client.unreadable (2 ^ 64 - 1)
  pub wanted : held.wanted ≡ client.wanted
  pub requests : held.requests ≡ client.requests
  pub repair : StandsAsRepairs client.copy.pad.all held.repair client.repair
  pub synced : held.synced ≡ client.synced

-- a client that refused stands for what it stood for
abbrev pub StandsStill : View → View → Type 0
StandsStill old new = (client : ClientState) → StandsAs old client → StandsAs new client

-- ---- the premise on names

-- no names clash among all messages that the client ever received, nor with the one that the text brings
abbrev pub DiffersAfter : ClientState → List ℕ → Type 0
DiffersAfter client text = NoClash client.copy.pad.all × ((message : Message) → Brings client text message → NoClash (message ∷ client.copy.pad.all))

-- nor with the one that the content spells
abbrev pub DiffersAfterContent : ClientState → List ℕ → Type 0
DiffersAfterContent client content = NoClash client.copy.pad.all × ((message : Message) → Reads content message → NoClash (message ∷ client.copy.pad.all))

-- nor with the one that the reply brings
abbrev pub DiffersAfterReply : ClientState → Reply → Type 0
DiffersAfterReply client said = NoClash client.copy.pad.all × ((message : Message) → IsBroughtBy client said message → NoClash (message ∷ client.copy.pad.all))

-- nor with the one that what is addressed brings
abbrev pub DiffersAfterAddressed : ClientState → Addressed → Type 0
DiffersAfterAddressed client addressed = NoClash client.copy.pad.all × ((message : Message) → IsBrought client addressed message → NoClash (message ∷ client.copy.pad.all))
