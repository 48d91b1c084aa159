-- What a report tells.
use Rattle.std.specs.Prelude.{◌≡◌, ℕ, List, ◌++◌, codes}
use Rattle.pad_model.specs.Report.{ReportValues, line, json_string, report_lines}
use Rattle.pad_report.specs.declared.report.Report.{Report}

-- the values of the lines, of a report and the text after the best chain
abbrev pub values : Report → List ℕ → ReportValues
values report text = record {
  best = report.best;
  height = report.height;
  units = text;
  known = report.known;
  waiting = report.waiting;
  unreadable = report.unreadable;
  root = report.root;
  root_height = report.root_height;
  kept = report.kept;
  overtaken = report.overtaken;
}

-- the bytes are the lines of a report without the last one, which has the text
abbrev pub IsWithoutText : ReportValues → List ℕ → Type 0
IsWithoutText values bytes = bytes ++ line (codes "text") (json_string values.units) ≡ report_lines values
