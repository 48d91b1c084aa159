use Rattle.client_work.proofs.tests.work_stays_where_a_branch_is_overtaken.Given as goal

abbrev pub ghosts-carried_work : goal.ghosts-carried_work
ghosts-carried_work g a = record { name = a.blank.name; parts = a.blank.parts }
