-- A new chain is that of no messages.
use Rattle.pad_received.proofs.Receiving.{at_first}
use Rattle.pad_received.proofs.received.Received.new.Goals as goal

pub returns : goal.returns
returns c = at_first c.in_ok-chain.chain c.in_ok-chain.ensures.stands c.in_ok-chain.ensures.knows
