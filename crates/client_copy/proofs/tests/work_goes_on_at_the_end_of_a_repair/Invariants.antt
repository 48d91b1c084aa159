use Rattle.client_copy.proofs.tests.work_goes_on_at_the_end_of_a_repair.Given as goal

abbrev pub ghosts-repaired : goal.ghosts-repaired
ghosts-repaired g a = record { name = a.blank.name; parts = a.blank.parts }
