use Rattle.std.proofs.Common.{◌≡◌, ◌+◌, ◌<◌, Bool, true, false, List, length, slice_index_or, refl, sym, ◌∙◌, subst, arith}
use Rattle.std.specs.Prelude.{Contains}
use Rattle.std.specs.List.{All}
use Rattle.std.proofs.lemmas.List.{get_or_default}
use Rattle.pad_patch.specs.Piece.{inserted}
use Rattle.pad_stroke.specs.declared.mark.Mark.{Mark}
use Rattle.pad_stroke.specs.InTurn.{no_mark}
use Rattle.pad_stroke.specs.Strip.{stays, KeepsPairs}
use Rattle.pad_stroke.specs.Work.{Marked}
use Rattle.pad_stroke.proofs.MarkLaws.{stays_true}
use Rattle.pad_stroke.proofs.work.tests.without_sent.Goals as goal

goes_by : (gone : List Mark) (mark : Mark) (test : Bool) → stays gone mark ≡ test → Contains gone mark → stays gone mark ≡ false
goes_by gone mark true is contains = absurd (stays_true gone mark is contains)
goes_by gone mark false is contains = is

goes : (gone : List Mark) (mark : Mark) → Contains gone mark → stays gone mark ≡ false
goes gone mark contains = goes_by gone mark (stays gone mark) refl contains

-- where all marks go, each pair goes as a whole
keeps : (work of : Marked) → length work.marks ≡ length (inserted work.patch) → All (λ (mark : Mark). Contains of.marks mark) work.marks
    → KeepsPairs of.marks (inserted work.patch) work.marks
keeps work of counted all place cut =
    let end : place + 1 < length work.marks = omega (arith, cut.before_end) in
    goes of.marks (slice_index_or work.marks place no_mark) (all place no_mark (omega arith))
    ∙ sym (goes of.marks (slice_index_or work.marks (place + 1) no_mark) (all (place + 1) no_mark end))

own : (marks : List Mark) → All (λ (mark : Mark). Contains marks mark) marks
own marks k default below = (k, below, get_or_default marks k (slice_index_or marks k default) default below)

pub strip-requires : goal.strip-requires
strip-requires c =
    let work = c.args.work in
    let sent = c.in_ok-sent.sent in
    let all = subst (λ (w : Marked). All (λ (mark : Mark). Contains w.marks mark) work.marks) (sym c.in_ok-sent.ensures.copy) (own work.marks) in
    c.pairs_stay_whole.ensures work sent c.copy.ensures.work.counted c.copy.ensures.work.texts
    (keeps work sent c.copy.ensures.work.counted all)
