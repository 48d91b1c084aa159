use Rattle.std.proofs.Common.{◌+◌, ◌++◌, List, length, sym, ap, ◌∙◌}
use Rattle.pad_checkpoint.specs.declared.path_mark.PathMark.{PathMark}
use Rattle.pad_chain.specs.Inside.Marks.{marks_from}
use Rattle.pad_chain.proofs.PathMarks.{marks_append}
use Rattle.pad_chain.proofs.marks.path_marks.Goals as goal

pub returns : goal.returns
returns c =
    c.new.ensures ∙ c.in_ok-add_marks-2.ensures
    ∙ ap (λ (ms : List PathMark). ms ++ marks_from (c.args.low + length c.args.stay.now) c.args.come.now) (c.in_ok-add_marks.ensures ∙ ap (λ (ms : List PathMark). ms ++ marks_from c.args.low c.args.stay.now) c.new-marks.ensures.items)
    ∙ sym (marks_append c.args.low c.args.stay.now c.args.come.now)
