use Rattle.client_script.proofs.tests.carried_out.Given as goal

abbrev pub ghosts-conversed : goal.ghosts-conversed
ghosts-conversed a = record { name = a.blank.name; parts = a.blank.parts }
