-- What a chain knows of the names of the messages received, the newest first. It holds whatever their names are: two different
-- messages may have one name.
use Rattle.std.specs.Prelude.{◌≢◌, ◌↔◌, List}
use Rattle.pad_text.specs.declared.name.Name.{Name}
use Rattle.pad_message.specs.declared.message.Message.{Message}
use Rattle.pad_message.specs.Message.{name_of}
use Rattle.pad_graph.specs.declared.graph.TheConstants.{MOST_NAMES}
use Rattle.pad_graph.specs.Chain.{Link, IsAddedName}
use Rattle.pad_graph.specs.State as graph
use Rattle.pad_graph.specs.Graph.{Stands}
use Rattle.pad_list.specs.Number.{IsNumberOf}
use Rattle.pad_model.specs.declared.base.Base.{Base}
use Rattle.pad_model.specs.Count.{IsKnown}
use Rattle.pad_chain.specs.State.{View}

-- the graph stands for links on the base, and the names that were added are those that are known
pub record Knows (chain : View) (base : Base) (received : List Message) : Type 0 where
  pub links : List Link
  pub root : List Name
  pub stands : Stands (graph.state_of chain.graph) base.name links root
  pub names : (name : Name) → IsAddedName links name ↔ IsKnown base received name

-- as many names are known as there may be, and the message's is none of them and not the base's
pub record IsFull (base : Base) (received : List Message) (message : Message) : Type 0 where
  pub full : IsNumberOf (IsKnown base received) MOST_NAMES
  pub not_base : name_of message ≢ base.name
  pub new : ¬ (IsKnown base received (name_of message))
