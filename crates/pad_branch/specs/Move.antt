-- Messages that leave the best branch, and messages that come onto it.
use Rattle.pad_message.specs.declared.message.Message.{Message}
use Rattle.pad_message.specs.Message.{name_of}
use Rattle.pad_branch.specs.declared.moved.Move.{Move}
use Rattle.pad_branch.specs.declared.undo.Undo.{Undo}

-- the message that the undo takes back leaves, with the inverse of its patch
abbrev pub move_back : Undo → Move
move_back undo = record { name = undo.after.name; kind = undo.kind; patch = undo.inverse }

-- the message comes on, with its patch
abbrev pub move_on : Message → Move
move_on message = record { name = name_of message; kind = message.kind; patch = message.patch }
