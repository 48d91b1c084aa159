-- Own messages on a path: which mark each unit of the text after the path has, and which marks own messages brought.
use Rattle.std.specs.Prelude.{List, [], ◌∷◌, ◌++◌, length, map, if◌then◌else◌, Option, Some, None}
use Rattle.pad_patch.specs.Piece.{inserted}
use Rattle.pad_message.specs.declared.message.Message.{Message}
use Rattle.pad_message.specs.Kind.{is_checkpoint}
use Rattle.pad_message.specs.Message.{name_of}
use Rattle.pad_model.specs.declared.base.Base.{Base}
use Rattle.pad_stroke.specs.declared.mark.Mark.{Mark}
use Rattle.pad_stroke.specs.Work.{Marked}
use Rattle.pad_stroke.specs.Row.{Row, no_marks, row_after}
use Rattle.client_work.specs.Switch.{SentWorks, sent_as}

-- the entries of the units that a message inserts: the marks of the work that was sent as it, and nothing for another's
abbrev pub entries_of : Option Marked → Message → Row
entries_of None message = no_marks (length (inserted message.patch))
entries_of (Some own) message = map Some own.marks

-- The row of the text after a path: the base's units have no marks, a checkpoint leaves the row, and a kept unit keeps its entry.
abbrev pub row_on : Base → SentWorks → List Message → Row
row_on base sent [] = no_marks (length base.text)
row_on base sent (message ∷ path) =
    if is_checkpoint message.kind then row_on base sent path
    else row_after message.patch (entries_of (sent_as sent (name_of message)) message) (row_on base sent path)

-- the marks of a work that was sent
abbrev pub own_marks : Option Marked → List Mark
own_marks None = []
own_marks (Some own) = own.marks

-- the marks of the works that were sent as the messages of a path
abbrev pub marks_on : SentWorks → List Message → List Mark
marks_on sent [] = []
marks_on sent (message ∷ path) = if is_checkpoint message.kind then marks_on sent path else own_marks (sent_as sent (name_of message)) ++ marks_on sent path
