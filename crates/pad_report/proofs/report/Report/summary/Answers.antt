use Rattle.pad_report.proofs.report.Report.summary.Goals as goal

pub returns : goal.returns
returns c =
    rw (c.in_ok-push_count-7.ensures, c.in_ok-push_count-6.ensures, c.in_ok-push_place.ensures, c.in_ok-push_count-5.ensures, c.in_ok-push_count-4.ensures, c.in_ok-push_count-3.ensures, c.in_ok-push_count-2.ensures, c.in_ok-push_name-2.ensures, c.in_ok-push_count.ensures, c.in_ok-push_name.ensures, c.new-lines.ensures.bytes, c.requires, c.len.ensures)
