-- What is chosen of the messages received, and the counts.
use Rattle.std.specs.Prelude.{◌≡◌, ℕ, List, reverse}
use Rattle.pad_message.specs.declared.message.Message.{Message}
use Rattle.pad_model.specs.declared.base.Base.{Base}
use Rattle.pad_model.specs.Path.{text}
use Rattle.pad_model.specs.Choice.{Choice, IsChoice}
use Rattle.pad_model.specs.Count.{AreCounts}
use Rattle.pad_model.specs.Report.{ReportValues}
use Rattle.pad_plain.specs.declared.summary.Summary.{Summary}
use Rattle.pad_plain.specs.Tip.{IsTipOf}

-- it has the choice after the messages, in the order in which they came, and the counts of names and messages
pub record IsSummary (base : Base) (received : List Message) (summary : Summary) : Type 0 where
  pub choice : Choice
  pub is_choice : IsChoice base (reverse received) choice
  pub best_tip : IsTipOf base choice.chosen summary.best
  pub after : summary.text ≡ text base choice.chosen
  pub root_tip : IsTipOf base choice.root summary.root
  pub overtook : summary.overtaken ≡ choice.overtaken
  pub counts : AreCounts base received choice.root summary.known summary.waiting summary.kept

-- the values of a report, of a summary
abbrev pub summary_values : Summary → ℕ → ReportValues
summary_values summary unreadable = record {
  best = summary.best.name;
  height = summary.best.height;
  units = summary.text;
  known = summary.known;
  waiting = summary.waiting;
  unreadable = unreadable;
  root = summary.root.name;
  root_height = summary.root.height;
  kept = summary.kept;
  overtaken = summary.overtaken;
}
