-- Each value is what the chain tells.
use Rattle.std.proofs.Common.{reverse, refl}
use Rattle.pad_model.specs.Base.{first_base}
use Rattle.pad_report.specs.declared.report.Report.{Report}
use Rattle.pad_received.proofs.Receiving.{chosen_of, tells}
use Rattle.pad_received.proofs.received.Received.told.Goals as goal

pub returns-clause-tells : goal.returns-clause-tells
returns-clause-tells c progress choice at stands =
    let best = c.best-best_end.result in
    let root = c.root-root_end.result in
    let received = reverse progress.messages in
    let report : Report = record {
      best = best.name;
      height = best.height;
      hash = c.hash.result;
      known = c.known.result;
      waiting = c.waiting.result;
      unreadable = c.args.self.now.unreadable;
      root = root.name;
      root_height = root.height;
      kept = c.kept.result;
      overtaken = c.overtaken.result;
    } in
    tells progress choice report best root (chosen_of c.args.self.now.chain received choice at.truncates stands)
    (c.best-best_end.ensures.stands first_base received choice stands) (c.root-root_end.ensures.stands first_base received choice stands)
    (c.overtaken.ensures.stands first_base received choice stands) at.others
    (c.known.ensures.stands first_base received choice stands) (c.waiting.ensures.stands first_base received choice stands) (c.kept.ensures.stands first_base received choice stands) refl
