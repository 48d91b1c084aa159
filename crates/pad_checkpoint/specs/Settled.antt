-- How the root moves, and what is dropped with it.
use Rattle.std.specs.Prelude.{◌≡◌, ◌≢◌, ℕ, List, ◌++◌}
use Rattle.pad_text.specs.declared.name.Name.{Name}
use Rattle.pad_message.specs.declared.message.Message.{Message}
use Rattle.pad_graph.specs.Chain.{Link}
use Rattle.pad_list.specs.Number.{IsNumberOf}
use Rattle.pad_graph.specs.State.{State}
use Rattle.pad_graph.specs.Graph.{Stands, AreDropped, IsDropped}
use Rattle.pad_model.specs.declared.base.Base.{Base}
use Rattle.pad_model.specs.Path.{IsLinkedPath}
use Rattle.pad_checkpoint.specs.declared.place.Place.{Place}
use Rattle.pad_checkpoint.specs.declared.path_mark.PathMark.{PathMark}
use Rattle.pad_checkpoint.specs.Place.{place_of, marks_on}
use Rattle.pad_checkpoint.specs.Links.{names_of, AreLinks}

-- the graph stands for the messages received and the root; the marks are those of a linked path above it
pub record IsRooted (base : Base) (received root above : List Message) (links : List Link) (place : Place) (marks : List PathMark) (state : State) : Type 0 where
  pub links_of : AreLinks base received links
  pub linked : IsLinkedPath base received (above ++ root)
  pub at_root : place ≡ place_of base root
  pub are_marks : marks ≡ marks_on base root above
  pub stands : Stands state base.name links (names_of root)

-- the root is the next one, and the graph stands for it; so many messages were dropped, which the graph lends if the root moved
pub record IsSettled (base : Base) (links : List Link) (root next : List Message) (place : Place) (state : State) (many : ℕ) : Type 0 where
  pub at_root : place ≡ place_of base next
  pub stands : Stands state base.name links (names_of next)
  pub count : IsNumberOf (IsDropped base.name links (names_of root) (names_of next)) many
  pub lent : next ≢ root → AreDropped base.name links (names_of root) (names_of next) state.dropped

-- the graph stands for the links that it stood for, maybe with another root
abbrev pub KeepsLinks : State → State → Type 0
KeepsLinks old new = (base : Name) (links : List Link) (root : List Name) → Stands old base links root → (next : List Name) × Stands new base links next
