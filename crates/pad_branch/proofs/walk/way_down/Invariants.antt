use Rattle.std.proofs.Common.{◌≡◌, ◌≢◌, ◌+◌, List, [], ◌∷◌, ◌++◌, length, Some, slice_get, All, IsSome}
use Rattle.std.specs.BTreeMap.{get}
use Rattle.pad_model.specs.declared.base.Base.{Base}
use Rattle.pad_message.specs.declared.message.Message.{Message}
use Rattle.pad_branch.specs.declared.undo.Undo.{Undo}
use Rattle.pad_text.specs.declared.name.Name.{Name}
use Rattle.pad_graph.specs.State.{name_cmp}
use Rattle.pad_model.specs.Path.{last_name, IsLinkedPath}
use Rattle.pad_branch.specs.Held.{HoldsKept}
use Rattle.pad_branch.specs.Undo.{undone_name}
use Rattle.pad_branch.proofs.Way.{Rest}
use Rattle.pad_branch.proofs.walk.way_down.Given as goal

abbrev pub invariant-loop-place : goal.invariant-loop-place
invariant-loop-place l = record {
  held : All (λ name. IsSome (get name_cmp l.messages name)) l.names.items;
  apart : (front : List Name) (last : Name) (undo : Undo) → l.names.items ≡ front ++ last ∷ [] → slice_get l.undos l.place ≡ Some undo → undone_name undo ≢ last;
  long : length l.names.items + l.place ≡ l.above;
  left : (base : Base) (received root : List Message) → HoldsKept base received root (get name_cmp l.messages) → (path : List Message) → IsLinkedPath base received (path ++ root) → length path ≡ l.above → last_name base (path ++ root) ≡ l.name
      → Rest base root path (get name_cmp l.messages) l.names.items l.at l.place;
}
