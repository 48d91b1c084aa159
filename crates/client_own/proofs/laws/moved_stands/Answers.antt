use Rattle.client_own.proofs.Switching.{all_moved}
use Rattle.client_own.proofs.laws.moved_stands.Goals as goal

pub returns : goal.returns
returns c = all_moved (record {
  own_back = c.own_reverted.ensures;
  own_on = c.own_applied.ensures;
  other_back = c.other_reverted.ensures;
  other_on = c.other_applied.ensures;
  gives_back = c.inverse_gives_back.ensures;
})
