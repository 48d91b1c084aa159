-- The cut of a path, by its marks.
use Rattle.std.specs.Prelude.{List, filter, reverse, slice_get, Option}
use Rattle.std.specs.Option.{option_map_or}
use Rattle.pad_checkpoint.specs.declared.place.Place.{Place}
use Rattle.pad_checkpoint.specs.declared.path_mark.PathMark.{PathMark}

-- those of the marks that are checkpoints'
abbrev pub checkpoints : List PathMark → List PathMark
checkpoints marks = filter (λ (mark : PathMark). mark.checkpoint) marks

-- the mark of the last but one checkpoint
abbrev pub last_but_one : List PathMark → Option PathMark
last_but_one marks = slice_get (reverse (checkpoints marks)) 1

-- its place, or the base's if there are fewer than two checkpoints
abbrev pub cut_place : Place → List PathMark → Place
cut_place base marks = option_map_or (λ (mark : PathMark). mark.place) (last_but_one marks) base
