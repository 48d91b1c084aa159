-- A summary's lines are the report.
use Rattle.std.proofs.Common.{◌≡◌, ℕ, List, ◌∙◌}
use Rattle.pad_message.specs.declared.message.Message.{Message}
use Rattle.pad_model.specs.declared.base.Base.{Base}
use Rattle.pad_model.specs.Report.{report_lines, IsReport}
use Rattle.pad_plain.specs.declared.summary.Summary.{Summary}
use Rattle.pad_plain.specs.Summary.{IsSummary, summary_values}

pub reported : (b : Base) (R : List Message) (unreadable : ℕ) (s : Summary) (bytes : List ℕ) → IsSummary b R s → bytes ≡ report_lines (summary_values s unreadable) → IsReport b R unreadable bytes
reported b R unreadable s bytes is e = record {
  choice = is.choice;
  is_choice = is.is_choice;
  known = s.known;
  waiting = s.waiting;
  kept = s.kept;
  counts = is.counts;
  lines = e ∙ (λ i. report_lines (record {
    best = is.best_tip.named i;
    height = is.best_tip.high i;
    units = is.after i;
    known = s.known;
    waiting = s.waiting;
    unreadable = unreadable;
    root = is.root_tip.named i;
    root_height = is.root_tip.high i;
    kept = s.kept;
    overtaken = is.overtook i;
  }));
}
