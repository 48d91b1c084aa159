-- The links of messages, as a graph of names has them.
use Rattle.std.specs.Prelude.{◌≡◌, ◌≢◌, List, map, Contains}
use Rattle.pad_text.specs.declared.name.Name.{Name}
use Rattle.pad_message.specs.declared.message.Message.{Message}
use Rattle.pad_message.specs.Message.{name_of}
use Rattle.pad_graph.specs.Chain.{Link}
use Rattle.pad_model.specs.declared.base.Base.{Base}

-- the link of a message
abbrev pub link_of : Message → Link
link_of message = record { name = name_of message; parent = message.parent }

-- the names of the messages of a path
abbrev pub names_of : List Message → List Name
names_of path = map name_of path

-- each is the link of a message received, and each message received that has not the base's name has its link among them
pub record AreLinks (base : Base) (received : List Message) (links : List Link) : Type 0 where
  pub each : (link : Link) → Contains links link → (message : Message) × Contains received message × (link_of message ≡ link)
  pub every : (message : Message) → Contains received message → name_of message ≢ base.name → Contains links (link_of message)
