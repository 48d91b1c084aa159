-- A work without the units that another one inserts.
use Rattle.std.specs.Prelude.{◌≡◌, ℕ, ◌+◌, ◌==◌, ◌&&◌, not, if◌then◌else◌, Bool, List, [], ◌∷◌, length, drop, filter, slice_index_or}
use Rattle.std.specs.List.{list_any}
use Rattle.pad_text.specs.Text.{CutsPair}
use Rattle.pad_patch.specs.declared.operation.Operation.{Operation}
use Rattle.pad_patch.specs.Operation.{is_noop}
use Rattle.pad_stroke.specs.declared.mark.Mark.{Mark}
use Rattle.pad_stroke.specs.Work.{Marked}
use Rattle.pad_stroke.specs.InTurn.{no_mark}

-- the marks have the same stroke and the same index
abbrev pub same_mark : Mark → Mark → Bool
same_mark first second = first.stroke == second.stroke && first.index == second.index

-- the mark is none of these
abbrev pub stays : List Mark → Mark → Bool
stays marks mark = not (list_any (λ other. same_mark other mark) marks)

-- the units whose marks are none of these, where each unit has its mark
abbrev pub staying : List Mark → List ℕ → List Mark → List ℕ
staying gone [] marks = []
staying gone (unit ∷ units) [] = []
staying gone (unit ∷ units) (mark ∷ marks) = if stays gone mark then unit ∷ staying gone units marks else staying gone units marks

-- the two units of each pair both stay or both do not, where each unit has its mark
abbrev pub KeepsPairs : List Mark → List ℕ → List Mark → Type 0
KeepsPairs gone units marks =
    (place : ℕ) → CutsPair units (place + 1) → stays gone (slice_index_or marks place no_mark) ≡ stays gone (slice_index_or marks (place + 1) no_mark)

-- the operations with those inserted units alone, where each inserted unit has its mark
abbrev pub thinned : List Mark → List Operation → List Mark → List Operation
thinned gone [] marks = []
thinned gone (operation ∷ operations) marks =
    record operation { insert = staying gone operation.insert marks } ∷ thinned gone operations (drop (length operation.insert) marks)

-- the operation removes or inserts something
abbrev pub is_needed : Operation → Bool
is_needed operation = not (is_noop operation)

-- the work without the units that the other one inserts: what is then empty of its operations is left out
unfoldable pub stripped : Marked → Marked → Marked
stripped work of = record {
  patch = record { ops = filter is_needed (thinned of.marks work.patch.ops work.marks); before = work.patch.before };
  marks = filter (stays of.marks) work.marks;
}
