use Rattle.pad_chain.proofs.tests.end_after.Given as goal

abbrev pub ghosts-received : goal.ghosts-received
ghosts-received a = record { name = a.blank.name; parts = a.blank.parts }
