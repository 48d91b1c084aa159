-- Each channel is one that was not loaded, and nothing is pending on its files.
use Rattle.std.proofs.Common.{sym}
use Rattle.log_format.specs.declared.form.Form.TheVariants.{One, Two}
use Rattle.keeper_table.specs.Files.{file_one, file_two}
use Rattle.hub_keeper.proofs.hub_keeper.HubKeeper.new.Goals as goal

pub returns-clause-keeps : goal.returns-clause-keeps
returns-clause-keeps g c = λ disk rests. record {
  each = λ channel digits. (
    c.new.ensures.none channel,
    g.met.O.Ledger.rests_all One (file_one channel) disk (λ file owned. rests file),
    g.met.G.Ledger.rests_all Two (file_two channel) disk (λ file owned. rests file),
  );
  loaded = sym c.new.ensures.size;
}
