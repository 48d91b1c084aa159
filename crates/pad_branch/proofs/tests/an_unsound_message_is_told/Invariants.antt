use Rattle.pad_branch.proofs.tests.an_unsound_message_is_told.Given as goal

abbrev pub ghosts-chosen : goal.ghosts-chosen
ghosts-chosen g a = record { name = a.blank.name; parts = a.blank.parts }

abbrev pub ghosts-first_unsound : goal.ghosts-first_unsound
ghosts-first_unsound g a = record { name = a.blank.name; parts = a.blank.parts }
