use Rattle.std.proofs.Common.{◌≡◌, string_bytes}
use Rattle.std.proofs.lemmas.Result.{IfOk-weaker}
use Rattle.pad_model.specs.Path.{NamesDiffer}
use Rattle.pad_model.specs.Report.{report_lines, IsReport}
use Rattle.pad_plain.specs.Summary.{summary_values}
use Rattle.pad_plain.proofs.Reported.{reported}
use Rattle.pad_plain.proofs.writing.report.Goals as goal

pub returns : goal.returns
returns c =
    let summary = c.in_ok-summary.summary in
    let base = c.args.base.now in
    IfOk-weaker c.lines.result (λ lines. string_bytes lines ≡ report_lines (summary_values summary c.args.unreadable))
    (λ lines. NamesDiffer c.args.messages.now → IsReport base c.args.messages.now c.args.unreadable (string_bytes lines))
    (λ lines is differ. reported base c.args.messages.now c.args.unreadable summary (string_bytes lines) (c.in_ok-summary.ensures differ) is)
    c.lines.ensures
