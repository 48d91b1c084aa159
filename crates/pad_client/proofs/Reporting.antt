-- What is told of a client is its report.
use Rattle.std.proofs.Common.{◌≡◌, ℕ, Bool, true, false, ◌+◌, ◌-◌, ◌^◌, min, List, ◌++◌, length, ap, ◌∙◌}
use Rattle.pad_list.specs.Number.{IsNumberOf}
use Rattle.pad_patch.specs.Piece.{text_after}
use Rattle.pad_message.specs.declared.message.Message.{Message}
use Rattle.pad_model.specs.declared.base.Base.{Base}
use Rattle.pad_model.specs.Best.{IsBest}
use Rattle.pad_model.specs.Choice.{Choice}
use Rattle.pad_model.specs.Path.{text, NamesDiffer}
use Rattle.pad_model.proofs.CallerLemmas.{nothing_overtook}
use Rattle.pad_chain.specs.Tie.{IsChosen}
use Rattle.pad_model.specs.Count.{IsKnown, IsWaiting, IsKept}
use Rattle.pad_model.specs.Report.{report_lines}
use Rattle.pad_checkpoint.specs.declared.place.Place.{Place}
use Rattle.pad_checkpoint.specs.Place.{place_of}
use Rattle.pad_report.specs.declared.report.Report.{Report}
use Rattle.pad_report.specs.Report.{values}
use Rattle.client_copy.specs.Pad.{committed}
use Rattle.pad_client.specs.State.{ClientState}
use Rattle.pad_client.specs.Report.{IsPadReport, own_lines, shown}
use Rattle.pad_client.specs.View.{View, StandsAs}

-- if nothing overtook, the chosen path is the best chain: also where nothing is ever dropped
best_of : (whole : Bool) (base : Base) (received : List Message) (choice : Choice) → IsChosen whole base received choice → NamesDiffer received → choice.overtaken ≡ 0 → IsBest base received choice.chosen
best_of true base received choice chosen differ none = chosen.best
best_of false base received choice chosen differ none = nothing_overtook base received choice differ chosen none

-- the lines of what a chain tells are the report of the pad
pub reported : (client : ClientState) (report : Report) (best root : Place) (units bytes : List ℕ)
    → IsChosen client.copy.pad.whole client.copy.pad.base client.copy.pad.received client.copy.pad.choice → best ≡ place_of client.copy.pad.base client.copy.pad.choice.chosen
    → root ≡ place_of client.copy.pad.base client.copy.pad.choice.root → units ≡ text client.copy.pad.base client.copy.pad.choice.chosen
    → report.overtaken ≡ client.copy.pad.choice.overtaken → report.unreadable ≡ min client.unreadable (2 ^ 64 - 1) → IsNumberOf (IsKnown client.copy.pad.base client.copy.pad.received) report.known
    → IsNumberOf (IsWaiting client.copy.pad.base client.copy.pad.received) report.waiting
    → ((above : ℕ) × IsNumberOf (IsKept client.copy.pad.base client.copy.pad.received client.copy.pad.choice.root) above × (report.kept ≡ above + 1))
    → report ≡ record report { best = best.name; height = best.height; root = root.name; root_height = root.height } → bytes ≡ report_lines (values report units) → IsPadReport client bytes
reported client report best root units bytes chosen at_best at_root after overtook unreadable known waiting kept told is = record {
  chosen = chosen;
  best = best_of client.copy.pad.whole client.copy.pad.base client.copy.pad.received client.copy.pad.choice chosen;
  known = report.known;
  waiting = report.waiting;
  kept = report.kept;
  counts = record { known_names = known; waiting_messages = waiting; above_root = kept.0; kept_messages = kept.1; with_root = kept.2 };
  lines = is ∙ ap (λ (r : Report). report_lines (values r units)) told ∙ (λ i. report_lines (record {
    best = (at_best i).name;
    height = (at_best i).height;
    units = after i;
    known = report.known;
    waiting = report.waiting;
    unreadable = unreadable i;
    root = (at_root i).name;
    root_height = (at_root i).height;
    kept = report.kept;
    overtaken = overtook i;
  }));
}

-- the lines on its own work
pub own_same : (pad : List ℕ) (held : View) (client : ClientState) → StandsAs held client → held.copy.pad.chain.branch.branch.units ≡ committed client.copy.pad
    → pad ++ own_lines (length held.requests.outbox) (length held.copy.work.patch.ops) (text_after held.copy.work.patch held.copy.pad.chain.branch.branch.units)
    ≡ pad ++ own_lines (length client.requests.outbox) (length client.copy.work.patch.ops) (shown client)
own_same pad held client stands same =
    λ i. pad ++ own_lines (length (stands.requests i).outbox) (length (stands.copy.work i).patch.ops) (text_after (stands.copy.work i).patch (same i))
