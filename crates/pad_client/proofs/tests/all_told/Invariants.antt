use Rattle.pad_client.proofs.tests.all_told.Given as goal

abbrev pub ghosts-tells : goal.ghosts-tells
ghosts-tells a = record { name = a.blank.name; parts = a.blank.parts }
