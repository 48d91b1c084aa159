use Rattle.pad_branch.proofs.tests.a_sound_message_becomes_the_end.Given as goal

abbrev pub ghosts-chosen : goal.ghosts-chosen
ghosts-chosen g a = record { name = a.blank.name; parts = a.blank.parts }
