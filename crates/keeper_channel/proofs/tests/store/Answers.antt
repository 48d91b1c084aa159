use Rattle.keeper_channel.proofs.tests.store.Goals as goal

pub store_slot-stored-requires-clause-tie : goal.store_slot-stored-requires-clause-tie
store_slot-stored-requires-clause-tie c = λ told. let found = c.in_ok-slot.ensures.found told in (found.0, found.1, found.3)
