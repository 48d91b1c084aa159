-- Where paths end, and the marks of the messages on them.
use Rattle.std.specs.Prelude.{List, [], ◌∷◌, ◌++◌, length}
use Rattle.pad_message.specs.declared.message.Message.{Message}
use Rattle.pad_message.specs.Kind.{is_checkpoint}
use Rattle.pad_model.specs.declared.base.Base.{Base}
use Rattle.pad_model.specs.Path.{last_name}
use Rattle.pad_checkpoint.specs.declared.place.Place.{Place}
use Rattle.pad_checkpoint.specs.declared.path_mark.PathMark.{PathMark}

-- where a path ends
abbrev pub place_of : Base → List Message → Place
place_of base path = record { name = last_name base path; height = length path }

-- the mark of the message on top of a path
abbrev pub mark_of : Base → List Message → Message → PathMark
mark_of base path message = record { place = place_of base (message ∷ path); checkpoint = is_checkpoint message.kind }

-- the marks of the messages that stand on a path, the lowest first
abbrev pub marks_on : Base → List Message → List Message → List PathMark
marks_on base path [] = []
marks_on base path (message ∷ above) = marks_on base path above ++ mark_of base (above ++ path) message ∷ []
