-- The marks of the units of the shown text.
use Rattle.std.proofs.Common.{◌≡◌, ℕ, zero, suc, ◌+◌, ◌-◌, ◌<◌, List, [], ◌∷◌, ◌++◌, length, map, take, drop, slice_index_or, refl, sym, ◌∙◌, ap, arith}
use Rattle.std.specs.Prelude.{Option, Some, None, replicate}
use Rattle.std.specs.List.{range_with_len}
use Rattle.std.specs.Option.{option_map}
use Rattle.std.proofs.lemmas.List.{append-nil, take_all, length-drop, length-map, ext_get_or}
use Rattle.std.proofs.lemmas.List.FromFn.{length-range_with_len, length-map-range_with_len, get_or-map-range_with_len}
use Rattle.pad_text.specs.declared.name.Name.{Name}
use Rattle.pad_patch.specs.declared.operation.Operation.{Operation}
use Rattle.pad_patch.specs.declared.patch.Patch.{Patch}
use Rattle.pad_patch.specs.Piece.{end_of, patched, inserted}
use Rattle.pad_patch.proofs.CallerLemmas.{map-patched, map-map, read_all, somes-map, somes-patched, replicate-map}
use Rattle.pad_merge.specs.declared.origin.Origin.{Origin}
use Rattle.pad_merge.specs.declared.origin.Origin.TheVariants.{First, Second}
use Rattle.pad_merge.specs.Origin.{numbered, origins_after, origins}
use Rattle.pad_stroke.specs.declared.mark.Mark.{Mark}
use Rattle.pad_stroke.specs.Mark.{marks_of}
use Rattle.pad_stroke.specs.Row.{Row, no_marks, row_after, shown_row}
use Rattle.pad_stroke.specs.InTurn.{no_mark, mark_from, in_turn}
use Rattle.pad_stroke.specs.Edit.{typed}
use Rattle.pad_stroke.specs.Laws.{shown_marks, somes, MarksAreShown, EditMarks}

none_there : (size : ℕ) → map (λ _. None) (range_with_len 0 size) ≡ no_marks size
none_there size = replicate-map None (range_with_len 0 size) ∙ ap no_marks (length-range_with_len 0 size)

pub marks_are_shown : MarksAreShown
marks_are_shown work size counted =
    ap (λ row. somes (shown_row work row)) (sym (none_there size)) ∙ somes-patched work.patch work.marks (range_with_len 0 size) counted

minus_zero : (n : ℕ) → n - 0 ≡ n
minus_zero n = omega arith

-- a list that a patch of one operation copies
pub patched-one : {A : Type 0} (operation : Operation) (before : Name) (new old : List A) → length new ≡ length operation.insert
    → patched (record { ops = operation ∷ []; before = before }) new old ≡ take operation.offset old ++ (new ++ drop (end_of operation) old)
patched-one operation before new old counted =
    let end = end_of operation in
    let behind = take (length old - end) (drop end old) in
    ap (λ n. take n old ++ (take (length operation.insert) new ++ (behind ++ []))) (minus_zero operation.offset)
    ∙ ap (λ xs. take operation.offset old ++ (xs ++ (behind ++ []))) (take_all (length operation.insert) new (omega (arith, counted)))
    ∙ ap (λ xs. take operation.offset old ++ (new ++ xs)) (append-nil behind ∙ take_all (length old - end) (drop end old) (omega (arith, length-drop end old)))

-- the marks that an edit types
typed_marks : (marks : List Mark) (stroke count : ℕ)
    → map (option_map (mark_from marks (marks_of stroke count))) (numbered Second 0 count) ≡ map Some (marks_of stroke count)
typed_marks marks stroke count =
    let mark = λ (index : ℕ). let m : Mark = record { stroke = stroke; index = index } in m in
    let f = mark_from marks (marks_of stroke count) in
    let read = λ (place : ℕ). Some (slice_index_or (marks_of stroke count) place no_mark) in
    let typed_one = λ (index : ℕ). Some (mark index) in
    map-map (option_map f) (λ place. Some (Second place)) (range_with_len 0 count)
    ∙ ext_get_or (Some no_mark) (map read (range_with_len 0 count)) (map typed_one (range_with_len 0 count))
    (length-map-range_with_len read 0 count ∙ sym (length-map-range_with_len typed_one 0 count))
    (λ i below.
    let within : i < count = omega (arith, length-map-range_with_len read 0 count) in
    get_or-map-range_with_len read 0 count i i (Some no_mark) within (omega arith)
    ∙ ap Some (get_or-map-range_with_len mark 0 count i i no_mark within (omega arith))
    ∙ sym (get_or-map-range_with_len typed_one 0 count i i (Some no_mark) within (omega arith)))
    ∙ sym (map-map Some mark (range_with_len 0 count))

map-none : (f : Origin → Mark) (size : ℕ) → map (option_map f) (replicate size None) ≡ no_marks size
map-none f zero = refl
map-none f (suc size) = ap (λ xs. None ∷ xs) (map-none f size)

-- the marks of the numbered units of the first of two works
first_marks : (marks others : List Mark) → map (option_map (mark_from marks others)) (numbered First 0 (length marks)) ≡ map Some marks
first_marks marks others =
    map-map (option_map (mark_from marks others)) (λ place. Some (First place)) (range_with_len 0 (length marks))
    ∙ sym (map-map Some (λ place. slice_index_or marks place no_mark) (range_with_len 0 (length marks)))
    ∙ ap (map Some) (read_all no_mark marks)

pub edit_marks : EditMarks
unfolding in_turn origins
edit_marks work operation stroke size counted =
    let count = length operation.insert in
    let new = marks_of stroke count in
    let f = mark_from work.marks new in
    let before = origins_after First work.patch (replicate size None) in
    let patch = (typed work operation stroke).patch in
    let long : length (inserted patch) ≡ count = ap length (append-nil operation.insert) in
    let here : map (option_map f) before ≡ shown_marks work size =
    map-patched (option_map f) work.patch (numbered First 0 (length (inserted work.patch))) (replicate size None)
    ∙ ap (λ xs. patched work.patch xs (map (option_map f) (replicate size None))) (ap (λ n. map (option_map f) (numbered First 0 n)) (sym counted) ∙ first_marks work.marks new)
    ∙ ap (patched work.patch (map Some work.marks)) (map-none f size) in
    sym (somes-map f (origins_after Second patch before))
    ∙ ap somes
    (map-patched (option_map f) patch (numbered Second 0 (length (inserted patch))) before
    ∙ ap (λ xs. patched patch xs (map (option_map f) before)) (ap (λ n. map (option_map f) (numbered Second 0 n)) long ∙ typed_marks work.marks stroke count)
    ∙ ap (patched patch (map Some new)) here
    ∙ patched-one operation work.patch.before (map Some new) (shown_marks work size)
    (length-map new Some ∙ length-map-range_with_len (λ index. record { stroke = stroke; index = index }) 0 count))
