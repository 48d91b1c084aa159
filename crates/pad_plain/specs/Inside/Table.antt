-- The names of messages, and the table of their first places.
use Rattle.std.specs.Prelude.{◌≡◌, ℕ, List, map}
use Rattle.std.specs.declared.cmp.Ordering.{Ordering}
use Rattle.std.specs.Ordering.{nat_cmp}
use Rattle.std.specs.Cmp.Lexicographic.{slice_cmp}
use Rattle.std.specs.BTreeMap.{BTreeMap, get}
use Rattle.pad_text.specs.declared.name.Name.{Name}
use Rattle.pad_message.specs.declared.message.Message.{Message}
use Rattle.pad_message.specs.Message.{name_of}
use Rattle.pad_plain.specs.declared.messages.Messages.TheInside.{Inside}
use Rattle.pad_plain.specs.Messages.{IsPlaceOf}

-- the order of names by their bytes
abbrev pub name_cmp : Name → Name → Ordering
name_cmp name other = slice_cmp nat_cmp name.0 other.0

-- the table has the first place of each of their names, and no other name
abbrev pub IsTableOf : List Message → BTreeMap Name ℕ → Type 0
IsTableOf received places = (name : Name) → IsPlaceOf received name (get name_cmp places name)

-- the messages' names, and their table
pub record HasNames (messages : Inside) : Type 0 where
  pub table : IsTableOf messages.items.items messages.places
  pub named : messages.names.items ≡ map name_of messages.items.items
